use Rattle.im_promote.proofs.Numbering.{ChosenTo}
use Rattle.im_promote.proofs.homes.choose.Given as goal

abbrev pub invariant-loop-k : goal.invariant-loop-k
invariant-loop-k l = ChosenTo l.function l.k l.of.items l.next
