use Rattle.im_alloc_intervals.specs.Homes.{home_at}
use Rattle.im_alloc.proofs.Steps.{SoFar}
use Rattle.im_alloc.proofs.lines.push_lines.Given as goal

abbrev pub invariant-loop-index : goal.invariant-loop-index
invariant-loop-index l = SoFar (home_at l.homes) l.exit l.old l.fn.number l.fn.lines.items l.next l.behind_call l.index l.lines.items
