-- What holds of code with its last cuts.
use Rattle.std.specs.Prelude.{◌≡◌, ℕ, Option, Some, None, slice_get}
use Rattle.im_block.specs.declared.access.Tags.{Tags}
use Rattle.im_block.specs.declared.unit.Function.{Function}
use Rattle.im_block.specs.declared.unit.Unit.{Unit as Code}
use Rattle.im_block.specs.Uncut.{SameButCuts}
use Rattle.im_block.specs.Shape.{AllOrdered}
use Rattle.im_block.specs.Forced.{AllForced}
use Rattle.im_block.specs.Paths.{AllSectioned}
use Rattle.im_alloc_placed.specs.Apart.{AllApart}
use Rattle.im_cut_gap.specs.Costs.{NoneLonger}
use Rattle.im_recut.specs.Recut.{RecutsTo, cost_limit}

-- where a longest gap was asked for, no path of a function without a cut costs more than is left for it
abbrev pub AllWithinGap : Option ℕ → Code → Type 0
AllWithinGap None u = Unit {0}
AllWithinGap (Some gap) u = (i : ℕ) (f : Function) → slice_get u.functions.items i ≡ Some f → NoneLonger (cost_limit gap) f

pub record RecutKeepsLaw : Type 0 where
  pub same : (tags : Tags) (max_gap : Option ℕ) (old new : Code) → RecutsTo tags max_gap old new → SameButCuts old new
  pub sectioned : (tags : Tags) (max_gap : Option ℕ) (old new : Code) → RecutsTo tags max_gap old new → AllSectioned tags new
  pub apart : (tags : Tags) (max_gap : Option ℕ) (old new : Code) → RecutsTo tags max_gap old new → AllApart old → AllApart new
  pub short : (tags : Tags) (max_gap : Option ℕ) (old new : Code) → RecutsTo tags max_gap old new → AllOrdered old → AllForced old → AllWithinGap max_gap new
