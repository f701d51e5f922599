-- Placing by a table of homes, block by block and function by function, for private contracts.
use Rattle.std.specs.Prelude.{◌≡◌, ℕ, suc, ◌+◌, ◌*◌, List, [], ◌∷◌, length, All}
use Rattle.im_block.specs.declared.code.Block.{Block}
use Rattle.im_block.specs.declared.unit.Registers.TheVariants.{Machine}
use Rattle.im_block.specs.declared.unit.Function.{Function}
use Rattle.im_alloc_relation.specs.Homes.{Home, numbers_kept, needed}
use Rattle.im_alloc_relation.specs.Placing.{PlacedBlock, PlacedBlocks as PlacedAll}
use Rattle.im_alloc_laws.specs.Numbered.{numbers_of_blocks}
use Rattle.im_alloc_intervals.specs.declared.table.Homes.{Homes}
use Rattle.im_alloc_intervals.specs.Homes.{home_at, AreHomes}
use Rattle.im_alloc_intervals.specs.Leaves.{NeedsNoSlot}
use Rattle.im_alloc.specs.Parts.{Fits}

abbrev pub FitsBlock : Block → Type 0
FitsBlock b = All Fits b.lines.items

-- with numbers from n up to next
pub record PlacesBlock (h : ℕ → Home) (n next : ℕ) (old new : Block) : Type 0 where
  pub placed : PlacedBlock h n old new
  pub next_is : next ≡ n + numbers_kept * suc (length (needed old.exit old.lines.items))

pub record PlacesBlocks (h : ℕ → Home) (n next : ℕ) (old new : List Block) : Type 0 where
  pub placed : PlacedAll h n old new
  pub next_is : next ≡ n + numbers_of_blocks old

-- by homes that suit the function
pub record PlacesFunction (n next : ℕ) (old new : Function) : Type 0 where
  pub homes : Homes
  pub suits : AreHomes old homes
  pub leaf : NeedsNoSlot old homes.slots
  pub blocks : PlacedAll (home_at homes.of.items) n old.blocks.items new.blocks.items
  pub rest : new ≡ record old { registers = Machine; register_count = 32; first_parameter = 10; slots = homes.slots; blocks = new.blocks }
  pub next_is : next ≡ n + numbers_of_blocks old.blocks.items

-- function by function
abbrev pub PlacesFunctions : ℕ → List Function → List Function → Type 0
PlacesFunctions n [] [] = Unit {0}
PlacesFunctions n (f ∷ fs) (g ∷ gs) =
    PlacesFunction n (n + numbers_of_blocks f.blocks.items) f g × PlacesFunctions (n + numbers_of_blocks f.blocks.items) fs gs
PlacesFunctions n [] (g ∷ gs) = ⊥
PlacesFunctions n (f ∷ fs) [] = ⊥

abbrev pub numbers_of : List Function → ℕ
numbers_of [] = 0
numbers_of (f ∷ fs) = numbers_of_blocks f.blocks.items + numbers_of fs
