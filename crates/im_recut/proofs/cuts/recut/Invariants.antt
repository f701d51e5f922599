use Rattle.im_block.proofs.Unitwise.{ZipTo}
use Rattle.im_recut.specs.Recut.{RecutsFunction}
use Rattle.im_recut.proofs.cuts.recut.Given as goal

-- the functions so far have their cuts, the others are as they were
abbrev pub invariant-loop-function : goal.invariant-loop-function
invariant-loop-function l = ZipTo (RecutsFunction l.tags l.fn.max_gap) l.function-index l.fn.unit.functions.items l.function-items
