use Rattle.im_cmd_lines.proofs.Joined.{first_sent, sends_then}
use Rattle.im_cmd.proofs.telling.send_report.Goals as goal

pub returns-in-Ok : goal.returns-in-Ok
returns-in-Ok g c = rw c.in-Some.is (sends_then _ _ _ _ _ _ _ _ c.in-Ok.ensures c.send_run_report.ensures)

pub returns-in-Err : goal.returns-in-Err
returns-in-Err g c = rw c.in-Some.is (first_sent _ _ _ _ c.in-Err.ensures)
