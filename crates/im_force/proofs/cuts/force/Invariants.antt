use Rattle.im_block.proofs.Unitwise.{ZipTo}
use Rattle.im_force.specs.Force.{ForcesFunction}
use Rattle.im_force.proofs.cuts.force.Given as goal

-- the functions so far have their cuts, the others are as they were
abbrev pub invariant-loop-function : goal.invariant-loop-function
invariant-loop-function l = ZipTo ForcesFunction l.function-index l.fn.unit.functions.items l.function-items
