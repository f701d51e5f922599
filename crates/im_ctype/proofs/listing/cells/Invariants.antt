use Rattle.std.proofs.Common.{◌≡◌, ◌++◌}
use Rattle.im_ctype.specs.Pending.{AreFitting, cells_waiting, cost_waiting}
use Rattle.im_ctype.specs.Table.{layout_of}
use Rattle.im_ctype.proofs.listing.cells.Given as goal

abbrev pub invariant-loop-next : goal.invariant-loop-next
invariant-loop-next l =
    (l.found.items ++ cells_waiting l.table l.pending.items ≡ (layout_of l.table l.fn.ty).cells)
    × AreFitting l.table l.pending.items

abbrev pub decreases-loop-next : goal.decreases-loop-next
decreases-loop-next l = cost_waiting l.table l.pending.items
