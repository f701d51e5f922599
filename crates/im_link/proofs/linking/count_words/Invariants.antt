use Rattle.std.proofs.Common.{◌≡◌, ◌-◌, ◌^◌, min, take}
use Rattle.im_link.specs.Parts.{word_count}
use Rattle.im_link.proofs.linking.count_words.Given as goal

abbrev pub invariant-loop-part : goal.invariant-loop-part
invariant-loop-part l = l.words ≡ min (word_count (take l.part-index l.parts)) (2 ^ 64 - 1)
