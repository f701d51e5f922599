-- A unit with some objects of activations as registers, as the pass makes it.
use Rattle.std.specs.Prelude.{◌≡◌, ℕ, Some, slice_get, All}
use Rattle.im_block.specs.declared.unit.Function.{Function}
use Rattle.im_block.specs.declared.unit.Unit.{Unit as Code}
use Rattle.im_promote.specs.Promote.{Promotes}
use Rattle.im_promote.specs.Written.{WritesObjectsFirst}
use Rattle.im_alloc_placed.specs.Placeable.{HasRoom}

-- objects become registers, none that a path may read before it writes it; frames have room for the registers
pub record IsPromoted (old new : Code) : Type 0 where
  pub promotes : Promotes old new
  pub first : (i : ℕ) (f : Function) → slice_get old.functions.items i ≡ Some f → WritesObjectsFirst promotes.homes f
  pub room : All HasRoom new.functions.items
