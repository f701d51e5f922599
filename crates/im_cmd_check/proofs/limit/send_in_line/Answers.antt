use Rattle.im_cmd_check.specs.Message.{shown_line}
use Rattle.im_cmd_check.specs.Sentences.{named_text}
use Rattle.im_cmd_check.proofs.Joined.{first_sent, sends_then}
use Rattle.im_cmd_check.proofs.limit.send_in_line.Goals as goal

pub returns-in-Ok : goal.returns-in-Ok
returns-in-Ok g c = sends_then _ _ (named_text c.args.quantity c.args.count c.args.name.now) (shown_line c.args.front.now c.args.rest.now) _ _ _ _ c.in-Ok.ensures c.send_shown_line.ensures

pub returns-in-Err : goal.returns-in-Err
returns-in-Err g c = first_sent (named_text c.args.quantity c.args.count c.args.name.now) (shown_line c.args.front.now c.args.rest.now) _ _ c.in-Err.ensures
