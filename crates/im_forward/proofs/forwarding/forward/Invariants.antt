use Rattle.im_forward.specs.Forward.{ForwardsFunction}
use Rattle.im_block.proofs.Unitwise.{ZipTo}
use Rattle.im_forward.proofs.forwarding.forward.Given as goal

-- the functions so far are forwarded, the others are as they were
abbrev pub invariant-loop-function : goal.invariant-loop-function
invariant-loop-function l = ZipTo ForwardsFunction l.function-index l.fn.unit.functions.items l.function-items
