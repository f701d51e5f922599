use Rattle.std.proofs.Common.{codes}
use Rattle.im_rv.specs.Decode.{decode}
use Rattle.im_cmd_lines.specs.Dumps.{instruction_text}
use Rattle.im_cmd_lines.proofs.Joined.{first_sent, sends_then}
use Rattle.im_cmd_lines.proofs.dumps.send_rest.Goals as goal

pub returns-in-Ok : goal.returns-in-Ok
returns-in-Ok g c = sends_then _ _ (instruction_text (decode c.args.word)) (codes "\n") _ _ _ _ c.in-Ok.ensures c.send.ensures

pub returns-in-Err : goal.returns-in-Err
returns-in-Err g c = first_sent (instruction_text (decode c.args.word)) (codes "\n") _ _ c.in-Err.ensures
