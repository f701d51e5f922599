-- What holds of code with its forced cuts.
use Rattle.im_block.specs.declared.unit.Unit.{Unit as Code}
use Rattle.im_block.specs.Uncut.{SameButCuts}
use Rattle.im_block.specs.Forced.{AllForced}
use Rattle.im_alloc_placed.specs.Apart.{AllApart, AllUncut}
use Rattle.im_force.specs.Force.{Forces}

pub record ForceKeepsLaw : Type 0 where
  pub same : (old new : Code) → Forces old new → SameButCuts old new
  pub forced : (old new : Code) → Forces old new → AllForced new
  pub apart : (old new : Code) → Forces old new → AllUncut old → AllApart new
