use Rattle.std.proofs.Common.{◌≡◌, ◌++◌, drop}
use Rattle.im_ctype.specs.Layout.{moved}
use Rattle.im_ctype.proofs.StructCells.{row_cells}
use Rattle.im_ctype.proofs.struct_cells.cells_of_struct.Given as goal

abbrev pub invariant-loop-index : goal.invariant-loop-index
invariant-loop-index l =
    l.found.items ++ row_cells l.types (drop l.index l.members) (drop l.index l.places) ≡ row_cells l.types l.members l.places
