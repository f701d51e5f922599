use Rattle.std.proofs.Common.{◌≡◌, ◌++◌, take}
use Rattle.im_image.specs.Text.{words_text}
use Rattle.im_mem_file.proofs.writing.put_words.Given as goal

abbrev pub invariant-loop-word : goal.invariant-loop-word
invariant-loop-word l = l.text.items ≡ l.initial.text.items ++ words_text (take l.word-index l.words)
