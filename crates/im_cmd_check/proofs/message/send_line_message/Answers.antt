use Rattle.std.proofs.Common.{◌++◌}
use Rattle.im_cmd_check.specs.Message.{place_text, shown_line}
use Rattle.im_cmd_check.specs.Reading.{reading_of}
use Rattle.im_cmd_check.specs.Sentences.{fault_text}
use Rattle.im_cmd_check.proofs.Joined.{first_sent, sends_then}
use Rattle.im_cmd_check.proofs.message.send_line_message.Goals as goal

pub returns-in-Ok : goal.returns-in-Ok
returns-in-Ok g c = sends_then _ _ (place_text (reading_of c.args.reading)) (fault_text c.args.why c.args.token.now ++ shown_line c.args.reading.front.now c.args.rest.now) _ _ _ _ c.in-Ok.ensures c.send_behind_place.ensures

pub returns-in-Err : goal.returns-in-Err
returns-in-Err g c = first_sent (place_text (reading_of c.args.reading)) (fault_text c.args.why c.args.token.now ++ shown_line c.args.reading.front.now c.args.rest.now) _ _ c.in-Err.ensures
