-- What a unit has that placing takes, for a trial.
use Rattle.im_block.specs.declared.unit.Unit.{Unit as Code}
use Rattle.im_block.specs.Wellformed.{IsWellFormed}
use Rattle.im_alloc_placed.specs.Placeable.{IsPlaceable}

pub record IsTaken (u : Code) : Type 0 where
  pub well_formed : IsWellFormed u
  pub placeable : IsPlaceable u
