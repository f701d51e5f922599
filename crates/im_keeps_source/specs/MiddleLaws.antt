-- The relations of the passes keep their lines of the record.
use Rattle.std.specs.Prelude.{ℕ, List, Option}
use Rattle.im_image.specs.Contents.{ImageValue}
use Rattle.im_block.specs.declared.access.Tags.{Tags}
use Rattle.im_block.specs.declared.unit.Unit.{Unit as Code}
use Rattle.im_alloc_laws.specs.Numbered.{IsWellPlaced}
use Rattle.im_forward.specs.Registers.{InRegisters}
use Rattle.im_recut.specs.Recut.{RecutsTo}
use Rattle.im_keeps_passes.specs.Source.{Source}
use Rattle.im_keeps_passes.specs.Passes.{Lowers, Cuts, Places, Recuts, Passes}
use Rattle.im_keeps_passes.specs.Laws.{CodeBounds}
use Rattle.im_keeps_source.specs.Middle.{Front, Chain}

pub record MiddleLaw : Type 0 where
  -- code with its locals in registers is still what lowering promises
  pub registers : (source : Source) (lowered forwarded : Code) → Lowers source lowered → InRegisters lowered forwarded → Lowers source forwarded
  -- no cuts may be added
  pub cut : (u : Code) → Cuts u u
  pub place : (u v : Code) → IsWellPlaced u v → Places u v
  pub recut : (u v : Code) (tags : Tags) (max_gap : Option ℕ) → RecutsTo tags max_gap u v → Recuts tags u v
  -- so the passes before selection bound what the code costs and what frames need, whether it has an image or not
  pub bounds : (source : Source) (code : Code) → Front source code → CodeBounds source code
  -- so with lowering and selection the record is whole
  pub whole : (source : Source) (frames : List ℕ) (image : ImageValue) (gap : ℕ) → Chain source frames image gap → Passes source frames image gap
