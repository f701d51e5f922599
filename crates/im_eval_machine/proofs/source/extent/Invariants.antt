use Rattle.std.proofs.Common.{◌≡◌, drop, max}
use Rattle.im_typed.specs.Values.{extent}
use Rattle.im_eval_machine.proofs.source.extent.Given as goal

abbrev pub invariant-loop-cell : goal.invariant-loop-cell
invariant-loop-cell l = extent l.cells ≡ max l.end (extent (drop l.cell-index l.cells))
