use Rattle.im_cmd_lines.proofs.Joined.{first_sent, sends_then}
use Rattle.im_cmd.proofs.evaluated.send_report.Goals as goal

pub returns-in-Ok : goal.returns-in-Ok
returns-in-Ok g c = sends_then _ _ _ _ _ _ _ _ (rw (c.evaluated_of.ensures, c.deref.ensures.value) at c.in-Ok.ensures) c.send_shown.ensures

pub returns-in-Err : goal.returns-in-Err
returns-in-Err g c = first_sent _ _ _ _ (rw (c.evaluated_of.ensures, c.deref.ensures.value) at c.in-Err.ensures)
