-- What homes of registers are, and what those of a function must meet.
use Rattle.std.specs.Prelude.{◌≡◌, ◌<◌, ◌≤◌, ℕ, ◌+◌, Bool, true, List, Option, Some, None, length, slice_get}
use Rattle.im_block.specs.declared.code.Block.{Block}
use Rattle.im_block.specs.declared.unit.Function.{Function}
use Rattle.im_block.specs.Wellformed.{IsFunction}
use Rattle.im_alloc_placed.specs.Placeable.{IsPlaceableFunction}
use Rattle.im_alloc_relation.specs.Homes.{Home, InRegister, InSlot}
use Rattle.im_alloc_relation.specs.Live.{lives}
use Rattle.im_alloc_relation.specs.Placing.{Valid}
use Rattle.im_alloc_intervals.specs.declared.table.Home.{Home as HomeOf}
use Rattle.im_alloc_intervals.specs.declared.table.Home.TheVariants.{Register, Slot}
use Rattle.im_alloc_intervals.specs.declared.table.Homes.{Homes}

abbrev pub home_of : HomeOf → Home
home_of (Register r) = InRegister r
home_of (Slot n) = InSlot n

abbrev pub home_or : Option HomeOf → Home
home_or None = InRegister 31
home_or (Some home) = home_of home

-- registers that the function doesn't have are in x31
abbrev pub home_at : List HomeOf → ℕ → Home
home_at homes v = home_or (slice_get homes v)

-- a function of a well-formed unit that can be placed
pub record IsAble (f : Function) : Type 0 where
  pub functions : List Function
  pub statics : ℕ
  pub whole : IsFunction functions f
  pub placeable : IsPlaceableFunction statics f

-- homes of a function's registers, by what lives at the starts of its blocks
pub record AreHomes (f : Function) (homes : Homes) : Type 0 where
  pub live : ℕ → ℕ → Bool
  pub within : (b v : ℕ) → live b v ≡ true → v < f.register_count
  pub count : length homes.of.items ≡ f.register_count
  pub received : (k : ℕ) → k < f.parameters → home_at homes.of.items (f.first_parameter + k) ≡ InRegister (10 + k)
  pub slots : (v n : ℕ) → home_at homes.of.items v ≡ InSlot n → n < homes.slots
  pub few : homes.slots ≤ f.register_count
  pub free : (v r : ℕ) → home_at homes.of.items v ≡ InRegister r → (8 < r) × (r < 32)
  pub valid : (b : ℕ) (block : Block) → slice_get f.blocks.items b ≡ Some block → Valid (home_at homes.of.items) live block.lines.items block.exit
  pub closed : (b : ℕ) (block : Block) (v : ℕ) → slice_get f.blocks.items b ≡ Some block → lives live block.lines.items block.exit v ≡ true → live b v ≡ true
  pub entered : (v r : ℕ) → live f.entry v ≡ true → home_at homes.of.items v ≡ InRegister r → (10 ≤ r) × (r < 10 + f.parameters)
