use Rattle.std.proofs.Common.{w32}
use Rattle.std.proofs.lemmas.Int.{to_z-of_z}
use Rattle.im_cmd_lines.proofs.Joined.{first_sent, sends_then}
use Rattle.im_cmd.proofs.telling.send_run_report.Goals as goal

pub returns-in-Err : goal.returns-in-Err
returns-in-Err g c =
    first_sent _ _ _ _
    (rw (to_z-of_z w32 c.status.result (record { sfits = c.status.type_inv }), c.ending_of.ensures, c.status.ensures, c.commits.ensures, c.instructions.ensures) at c.in-Err.ensures)

pub returns : goal.returns
returns g c =
    sends_then _ _ _ _ _ _ _ _
    (rw (to_z-of_z w32 c.status.result (record { sfits = c.status.type_inv }), c.ending_of.ensures, c.status.ensures, c.commits.ensures, c.instructions.ensures) at c.in-Ok.ensures)
    c.send_shown.ensures
