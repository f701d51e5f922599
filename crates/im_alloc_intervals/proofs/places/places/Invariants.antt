use Rattle.im_alloc_intervals.proofs.Placing.{PlacesFrom}
use Rattle.im_alloc_intervals.proofs.places.places.Given as goal

abbrev pub invariant-loop-left : goal.invariant-loop-left
invariant-loop-left l = PlacesFrom l.blocks l.places.items l.next l.left

abbrev pub decreases-loop-left : goal.decreases-loop-left
decreases-loop-left l = l.left
