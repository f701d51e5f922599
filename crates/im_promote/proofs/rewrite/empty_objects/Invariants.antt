use Rattle.im_promote.proofs.Emptying.{EmptiedTo}
use Rattle.im_promote.proofs.rewrite.empty_objects.Given as goal

abbrev pub invariant-loop-k : goal.invariant-loop-k
invariant-loop-k l = EmptiedTo l.homes l.k l.fn.objects l.objects
