use Rattle.std.proofs.Common.{◌≡◌, ◌+◌, ◌*◌, take}
use Rattle.im_io.specs.Whole.{SentAll}
use Rattle.im_cmd_lines.specs.Dumps.{word_lines}
use Rattle.im_cmd_lines.proofs.dumps.send_word_lines.Given as goal

abbrev pub invariant-loop-word : goal.invariant-loop-word
invariant-loop-word g l =
    let state = g.S.Sink.state in
    (l.at ≡ 4096 + 4 * l.word-index) × SentAll (word_lines 4096 (take l.word-index l.words)) (state l.fn.sink) (state l.sink)
