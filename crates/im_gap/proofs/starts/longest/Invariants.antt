use Rattle.std.proofs.Common.{◌≤◌, ◌*◌, [], take}
use Rattle.im_gap.specs.Walks.{IsGreatest}
use Rattle.im_gap.specs.Graph.{successors_of, weight_of, size_of}
use Rattle.im_gap.specs.Search.{IsSearchOf, AreCursorsOf}
use Rattle.im_gap.proofs.starts.longest.Given as goal

abbrev pub invariant-loop-start : goal.invariant-loop-start
invariant-loop-start l =
    IsSearchOf l.graph l.marks.items []
    × IsGreatest (successors_of l.graph) (weight_of l.graph) (take l.start-index l.starts) l.best
    × (l.best ≤ 2 * size_of l.graph)
    × AreCursorsOf l.graph l.marks.items l.cursors.items
