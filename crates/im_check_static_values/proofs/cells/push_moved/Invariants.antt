use Rattle.std.proofs.Common.{◌≡◌, ◌++◌, drop}
use Rattle.im_ctype.specs.Layout.{moved}
use Rattle.im_check_static_values.proofs.cells.push_moved.Given as goal

abbrev pub invariant-loop-cell : goal.invariant-loop-cell
invariant-loop-cell l =
    l.done.items ++ moved l.by (drop l.cell-index l.part) ≡ l.initial.done.items ++ moved l.by l.part
