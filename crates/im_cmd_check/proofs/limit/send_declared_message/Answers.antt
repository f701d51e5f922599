use Rattle.std.proofs.Common.{◌++◌}
use Rattle.im_cmd_check.specs.Message.{place_text, shown_line}
use Rattle.im_cmd_check.specs.Reading.{reading_of}
use Rattle.im_cmd_check.specs.Sentences.{named_text}
use Rattle.im_cmd_check.proofs.Joined.{first_sent, sends_then}
use Rattle.im_cmd_check.proofs.limit.send_declared_message.Goals as goal

pub returns-in-Ok : goal.returns-in-Ok
returns-in-Ok g c = sends_then _ _ (place_text (reading_of c.args.reading)) (named_text c.args.quantity c.args.count c.args.name.now ++ shown_line c.args.reading.front.now c.args.rest.now) _ _ _ _ c.in-Ok.ensures c.send_in_line.ensures

pub returns-in-Err : goal.returns-in-Err
returns-in-Err g c = first_sent (place_text (reading_of c.args.reading)) (named_text c.args.quantity c.args.count c.args.name.now ++ shown_line c.args.reading.front.now c.args.rest.now) _ _ c.in-Err.ensures
