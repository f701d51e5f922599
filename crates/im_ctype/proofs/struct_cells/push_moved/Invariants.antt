use Rattle.std.proofs.Common.{◌≡◌, ◌++◌, drop}
use Rattle.im_ctype.specs.Layout.{moved}
use Rattle.im_ctype.proofs.struct_cells.push_moved.Given as goal

abbrev pub invariant-loop-cell : goal.invariant-loop-cell
invariant-loop-cell l =
    l.found.items ++ moved l.by (drop l.cell-index l.cells) ≡ l.initial.found.items ++ moved l.by l.cells
