use Rattle.std.proofs.Common.{codes}
use Rattle.std.specs.List.{flat_map}
use Rattle.im_cmd_check.specs.Message.{under}
use Rattle.im_cmd_check.proofs.Joined.{first_sent, sends_then}
use Rattle.im_cmd_check.proofs.message.send_caret.Goals as goal

pub returns-in-Ok : goal.returns-in-Ok
returns-in-Ok g c = sends_then _ _ (flat_map under c.args.front.now) (codes "^\n") _ _ _ _ c.in-Ok.ensures c.send.ensures

pub returns-in-Err : goal.returns-in-Err
returns-in-Err g c = first_sent (flat_map under c.args.front.now) (codes "^\n") _ _ c.in-Err.ensures
