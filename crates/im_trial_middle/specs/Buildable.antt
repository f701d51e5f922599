-- What a unit has of which an image is built; and, for private contracts, what its functions have.
use Rattle.std.specs.Prelude.{◌≡◌, ◌≤◌, ℕ, List, length, slice_get}
use Rattle.im_num.specs.declared.values.Cause.{Cause}
use Rattle.im_mem.specs.Map.{statics_capacity}
use Rattle.im_block.specs.declared.unit.Function.{Function}
use Rattle.im_block.specs.declared.unit.Unit.{Unit as Code}
use Rattle.im_block.specs.Wellformed.{IsFunction, IsWellFormed, Takes, accesses_of_blocks}
use Rattle.im_block.specs.Meaning.{statics_of}
use Rattle.im_frame.specs.Layout.{rooms}
use Rattle.im_select_addresses.specs.Statics.{objects_of}
use Rattle.im_alloc_placed.specs.Placed.{IsPlacedCode, IsPlacedFunction}
use Rattle.im_select.specs.Selects.{causes_of_blocks}
use Rattle.im_link_laws.specs.Laws.{NamesAccesses}
use Rattle.im_pack.specs.Packed.{AreNamable}

-- placed code, whose statics fit and can be named
pub record IsBuildable (u : Code) : Type 0 where
  pub well_formed : IsWellFormed u
  pub placed : IsPlacedCode u
  pub named : NamesAccesses u
  pub room : rooms (objects_of u.statics.items) ≤ statics_capacity
  pub namable : AreNamable (statics_of u)

-- a function beside one static, that calls function 0 alone, with two arguments
pub record IsGiven (arguments locals : ℕ) (numbers : List ℕ) (reasons : List Cause) (f : Function) : Type 0 where
  pub parameters : f.parameters ≡ arguments
  pub first_object : f.first_object ≡ 1
  pub objects : length f.objects.items ≡ locals
  pub function : (functions : List Function) → Takes (slice_get functions 0) 2 → IsFunction functions f
  pub placed : IsPlacedFunction 1 f
  pub accesses : accesses_of_blocks f.blocks.items ≡ numbers
  pub causes : causes_of_blocks f.blocks.items ≡ reasons
