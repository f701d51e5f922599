use Rattle.std.proofs.Common.{◌≡◌, drop}
use Rattle.im_pack.specs.Objects.{runs_with, runs_of}
use Rattle.im_pack.proofs.runs.runs_of.Given as goal

abbrev pub invariant-loop-cell : goal.invariant-loop-cell
invariant-loop-cell l = runs_with l.runs.items (drop l.cell-index l.cells) ≡ runs_of l.cells
