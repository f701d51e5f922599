-- What is asked of a program whose code is to be small.
use Rattle.im_typed.specs.Limits.{IsWithinLimits}
use Rattle.im_typed.specs.Program.{Prog}
use Rattle.im_typed.specs.Typing.{IsWellTyped}

-- well typed and within the limits
pub record IsSmall (g : Prog) : Type 0 where
  pub typed : IsWellTyped g
  pub within : IsWithinLimits g
