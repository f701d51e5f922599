use Rattle.std.proofs.Common.{arith}
use Rattle.im_cmd_lines.proofs.WordLines.{word_first, word_sent}
use Rattle.im_cmd_lines.proofs.dumps.send_word_lines.Goals as goal

pub returns-in-Err : goal.returns-in-Err
returns-in-Err g c = word_first 4096 c.loop-word.at c.args.words.now c.loop-word.word-index 0 _ _ _ c.loop-word-test.true c.loop-word.invariant.0 c.loop-word.invariant.1 c.in-Err.ensures

pub loop-word-preserved : goal.loop-word-preserved
loop-word-preserved g c = (omega (arith, c.loop-word.invariant.0), word_sent 4096 c.loop-word.at c.args.words.now c.loop-word.word-index 0 _ _ _ c.loop-word-test.true c.loop-word.invariant.0 c.loop-word.invariant.1 c.in-Ok.ensures)
