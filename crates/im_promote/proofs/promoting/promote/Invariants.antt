use Rattle.im_promote.specs.Homes.{IsPromotedFunction}
use Rattle.im_block.proofs.Unitwise.{ZipTo}
use Rattle.im_promote.proofs.promoting.promote.Given as goal

-- the functions so far are promoted, the others are as they were
abbrev pub invariant-loop-function : goal.invariant-loop-function
invariant-loop-function l = ZipTo IsPromotedFunction l.function-index l.fn.unit.functions.items l.function-items
