use Rattle.std.proofs.Common.{ℕ, List, ◌++◌, codes, decimal, subst, to_z-of_z}
use Rattle.im_io.specs.Whole.{SentFirst, Sends}
use Rattle.im_cmd_lines.specs.Runs.{ending_line}
use Rattle.im_cmd_lines.proofs.Grouped.{in_front_of_five}
use Rattle.im_cmd_lines.proofs.Joined.{first_sent, sends_then}
use Rattle.im_cmd_lines.proofs.runs.send_run_lines.Goals as goal

pub returns-in-Ok : goal.returns-in-Ok
returns-in-Ok g c =
    let ending = ending_line c.args.ending c.args.status in
    let counts = codes "commits " ++ decimal c.args.commits ++ codes "\ninstructions " ++ decimal c.args.instructions ++ codes "\n" in
    subst (λ (text : List ℕ). Sends text c.send_counts.result (g.S.Sink.state c.args.sink.now) (g.S.Sink.state c.send_counts.new.sink))
    (in_front_of_five ending (codes "commits ") (decimal c.args.commits) (codes "\ninstructions ") (decimal c.args.instructions) (codes "\n"))
    (sends_then _ _ ending counts _ _ _ _ (rw (to_z-of_z c.ranges.status) at c.in-Ok.ensures) c.send_counts.ensures)

pub returns-in-Err : goal.returns-in-Err
returns-in-Err g c =
    let ending = ending_line c.args.ending c.args.status in
    let counts = codes "commits " ++ decimal c.args.commits ++ codes "\ninstructions " ++ decimal c.args.instructions ++ codes "\n" in
    subst (λ (text : List ℕ). SentFirst text (g.S.Sink.state c.args.sink.now) (g.S.Sink.state c.send_ending_line.new.sink))
    (in_front_of_five ending (codes "commits ") (decimal c.args.commits) (codes "\ninstructions ") (decimal c.args.instructions) (codes "\n"))
    (first_sent ending counts _ _ (rw (to_z-of_z c.ranges.status) at c.in-Err.ensures))
