use Rattle.std.proofs.Common.{length}
use Rattle.im_word.proofs.Texts.{Both}
use Rattle.im_word.proofs.word.is_text.Given as goal

abbrev pub invariant-loop-element : goal.invariant-loop-element
invariant-loop-element l = Both l.text l.rest

abbrev pub decreases-loop-element : goal.decreases-loop-element
decreases-loop-element l = length l.rest
