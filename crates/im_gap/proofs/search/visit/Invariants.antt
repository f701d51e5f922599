use Rattle.im_gap.specs.Graph.{successors_of, weight_of, size_of}
use Rattle.im_gap.specs.Search.{changes_left, VisitState, AreCursorsOf}
use Rattle.im_gap.proofs.search.visit.Given as goal

abbrev pub invariant-loop-top : goal.invariant-loop-top
invariant-loop-top l =
    VisitState (successors_of l.graph) (weight_of l.graph) (size_of l.graph) l.root l.marks.items l.path.items
    × AreCursorsOf l.graph l.marks.items l.cursors.items

abbrev pub decreases-loop-top : goal.decreases-loop-top
decreases-loop-top l = changes_left l.marks.items
