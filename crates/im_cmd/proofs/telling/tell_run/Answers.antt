use Rattle.im_cmd.specs.Outcome.{told, second_cut, first_cut}
use Rattle.im_cmd.proofs.Reports.{got_of}
use Rattle.im_cmd.proofs.telling.tell_run.Goals as goal

pub returns-in-Err : goal.returns-in-Err
returns-in-Err g c = first_cut _ _ _ (rw c.output.ensures at c.in-Err.ensures) (got_of _ _ _ _ _ _ c.send-in-Err.ensures)

pub returns-in-Ok-send_report : goal.returns-in-Ok-send_report
returns-in-Ok-send_report g c = rw (c.status_of_ending.ensures, c.ending_of.ensures) (told _ _ _ (rw c.output.ensures at c.in-Ok.ensures) c.in-Ok-send_report.ensures)

pub returns-in-Err-send_report : goal.returns-in-Err-send_report
returns-in-Err-send_report g c = second_cut _ _ _ (rw c.output.ensures at c.in-Ok.ensures) c.in-Err-send_report.ensures
