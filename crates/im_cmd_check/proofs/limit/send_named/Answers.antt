use Rattle.std.proofs.Common.{◌++◌, codes}
use Rattle.im_cmd_check.specs.Sentences.{named_text}
use Rattle.im_cmd_check.proofs.Joined.{first_sent, sends_then}
use Rattle.im_cmd_check.proofs.limit.send_named.Goals as goal

pub returns-in-Ok : goal.returns-in-Ok
returns-in-Ok g c = sends_then _ _ (c.args.file.now ++ codes ": ") (named_text c.args.quantity c.args.count c.args.name.now) _ _ _ _ c.in-Ok.ensures c.send_in.ensures

pub returns-in-Err : goal.returns-in-Err
returns-in-Err g c = first_sent (c.args.file.now ++ codes ": ") (named_text c.args.quantity c.args.count c.args.name.now) _ _ c.in-Err.ensures
