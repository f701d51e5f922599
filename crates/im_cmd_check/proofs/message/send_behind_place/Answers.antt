use Rattle.im_cmd_check.specs.Message.{shown_line}
use Rattle.im_cmd_check.specs.Sentences.{fault_text}
use Rattle.im_cmd_check.proofs.Joined.{first_sent, sends_then}
use Rattle.im_cmd_check.proofs.message.send_behind_place.Goals as goal

pub returns-in-Ok : goal.returns-in-Ok
returns-in-Ok g c = sends_then _ _ (fault_text c.args.why c.args.token.now) (shown_line c.args.front.now c.args.rest.now) _ _ _ _ c.in-Ok.ensures c.send_shown_line.ensures

pub returns-in-Err : goal.returns-in-Err
returns-in-Err g c = first_sent (fault_text c.args.why c.args.token.now) (shown_line c.args.front.now c.args.rest.now) _ _ c.in-Err.ensures
