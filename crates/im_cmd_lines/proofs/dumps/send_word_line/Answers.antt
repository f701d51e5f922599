use Rattle.std.proofs.Common.{◌++◌, codes}
use Rattle.im_rv.specs.Decode.{decode}
use Rattle.im_cmd_lines.specs.Numerals.{hex_word}
use Rattle.im_cmd_lines.specs.Dumps.{instruction_text}
use Rattle.im_cmd_lines.proofs.Joined.{first_sent, sends_then}
use Rattle.im_cmd_lines.proofs.dumps.send_word_line.Goals as goal

pub returns-in-Ok : goal.returns-in-Ok
returns-in-Ok g c = sends_then _ _ (hex_word c.args.at ++ codes ": " ++ hex_word c.args.word ++ codes " ") (instruction_text (decode c.args.word) ++ codes "\n") _ _ _ _ c.in-Ok.ensures c.send_rest.ensures

pub returns-in-Err : goal.returns-in-Err
returns-in-Err g c = first_sent (hex_word c.args.at ++ codes ": " ++ hex_word c.args.word ++ codes " ") (instruction_text (decode c.args.word) ++ codes "\n") _ _ c.in-Err.ensures
