use Rattle.std.proofs.Common.{ℕ, List, ◌++◌, codes, decimal, subst}
use Rattle.im_io.specs.Whole.{Sends}
use Rattle.im_cmd_lines.proofs.Grouped.{behind_four}
use Rattle.im_cmd_lines.proofs.refusal.send_input_too_long.Goals as goal

pub returns : goal.returns
returns g c =
    let sent = rw (c.as_bytes.ensures.value, c.format.ensures.text, c.as_bytes-2.ensures.value, c.format-2.ensures.text) at c.send_pieces.ensures in
    subst (λ (text : List ℕ). Sends (codes "intermit: " ++ text) c.send_pieces.result (g.S.Sink.state c.args.sink.now) (g.S.Sink.state c.send_pieces.new.sink))
    (behind_four (codes "input of ") (decimal c.args.count) (codes " bytes over ") (decimal c.args.limit) (codes "\n")) sent
