use Rattle.std.proofs.Common.{◌≡◌, ◌++◌, drop}
use Rattle.im_lower_plain.specs.MakeStatement.{cell_offsets}
use Rattle.im_lower.proofs.initialise.push_cell_offsets.Given as goal

abbrev pub invariant-loop-cell : goal.invariant-loop-cell
invariant-loop-cell l =
    l.found.items ++ cell_offsets l.offset (drop l.cell-index l.cells) ≡ l.initial.found.items ++ cell_offsets l.offset l.cells
