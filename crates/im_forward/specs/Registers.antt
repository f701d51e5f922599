-- Scalar locals as registers, in two passes: promotion, then forwarding of the copies that it leaves.
use Rattle.im_block.specs.declared.unit.Unit.{Unit as Code}
use Rattle.im_promote.specs.Promoted.{IsPromoted}
use Rattle.im_forward.specs.Forward.{Forwards}

pub record InRegisters (old new : Code) : Type 0 where
  pub promoted : Code
  pub promote : IsPromoted old promoted
  pub forward : Forwards promoted new
