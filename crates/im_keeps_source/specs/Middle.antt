-- The passes from block code to placed code with all its cuts, by their own relations.
use Rattle.std.specs.Prelude.{ℕ, List, Option}
use Rattle.im_image.specs.Contents.{ImageValue}
use Rattle.im_block.specs.declared.access.Tags.{Tags}
use Rattle.im_block.specs.declared.unit.Unit.{Unit as Code}
use Rattle.im_block.specs.Tagged.{IsSound}
use Rattle.im_force.specs.Force.{Forces}
use Rattle.im_alloc_laws.specs.Numbered.{IsWellPlaced}
use Rattle.im_recut.specs.Recut.{RecutsTo}
use Rattle.im_gap.specs.Gap.{IsGap}
use Rattle.im_keeps_passes.specs.Source.{Source}
use Rattle.im_keeps_passes.specs.Passes.{Lowers, Selects}

-- the passes before selection, whether the tags are sound or not
pub record Front (source : Source) (code : Code) : Type 0 where
  pub lowered : Code
  pub lower : Lowers source lowered
  pub forced : Code
  pub force : Forces lowered forced
  pub tags : Tags
  pub placed : Code
  pub place : IsWellPlaced forced placed
  pub max_gap : Option ℕ
  pub recut : RecutsTo tags max_gap placed code

-- all passes
pub record Chain (source : Source) (frames : List ℕ) (image : ImageValue) (gap : ℕ) : Type 0 where
  pub lowered : Code
  pub lower : Lowers source lowered
  pub forced : Code
  pub force : Forces lowered forced
  pub tags : Tags
  pub alias : IsSound forced tags
  pub placed : Code
  pub place : IsWellPlaced forced placed
  pub sectioned : Code
  pub max_gap : Option ℕ
  pub recut : RecutsTo tags max_gap placed sectioned
  pub select : Selects sectioned frames image
  pub measure : IsGap image.words image.entry gap
