-- What further cuts leave as it was.
use Rattle.std.specs.Prelude.{◌≡◌}
use Rattle.im_block.specs.declared.unit.Function.{Function}
use Rattle.im_block.specs.declared.unit.Unit.{Unit as Code}
use Rattle.im_block.specs.Shape.{loop_edges, function_cost, placed_cost}
use Rattle.im_block.specs.Forced.{AllForced}
use Rattle.im_block.specs.Uncut.{SameFunction, SameButCuts}
use Rattle.im_block.specs.Wellformed.{IsWellFormed}

-- each line has paid for a cut before it, so the cut costs nothing
pub record SameCosts (old new : Function) : Type 0 where
  pub cost : function_cost new ≡ function_cost old
  pub placed : placed_cost new ≡ placed_cost old
  pub edges : loop_edges new ≡ loop_edges old

pub record CutsKeepCodeLaw : Type 0 where
  pub forced : (old new : Code) → SameButCuts old new → AllForced old → AllForced new
  pub well_formed : (old new : Code) → SameButCuts old new → IsWellFormed old → IsWellFormed new
  pub costs : (old new : Function) → SameFunction old new → SameCosts old new
