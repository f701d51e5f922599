use Rattle.im_cmd_check.specs.Message.{caret_line, line_text}
use Rattle.im_cmd_check.proofs.Joined.{first_sent, sends_then}
use Rattle.im_cmd_check.proofs.message.send_shown_line.Goals as goal

pub returns-in-Ok : goal.returns-in-Ok
returns-in-Ok g c = sends_then _ _ (line_text c.args.front.now c.args.rest.now) (caret_line c.args.front.now) _ _ _ _ (rw c.front_run.ensures at c.in-Ok.ensures) c.send_caret.ensures

pub returns-in-Err : goal.returns-in-Err
returns-in-Err g c = first_sent (line_text c.args.front.now c.args.rest.now) (caret_line c.args.front.now) _ _ (rw c.front_run.ensures at c.in-Err.ensures)
