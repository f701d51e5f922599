-- What the names in a function's code stand for: places of objects, labels; and addresses of a register and an offset.
use Rattle.std.specs.Prelude.{◌≡◌, ◌<◌, ◌≤◌, ℕ, ◌+◌, ◌-◌, ◌*◌, ◌^◌, nat_lt, if◌then◌else◌, IsTrue, length, slice_index}
use Rattle.im_mem.specs.Map.{statics_start, statics_capacity}
use Rattle.im_rv.specs.Fits.{in_signed}
use Rattle.im_rv.specs.Steps.{word}
use Rattle.im_store.specs.Objects.{Name, Named, Slot, Link}
use Rattle.im_block.specs.declared.code.Line.{Line}
use Rattle.im_block.specs.declared.code.Line.TheVariants.{Call}
use Rattle.im_frame.specs.Layout.{IsLayout}
use Rattle.im_select.specs.Given.{Given}
use Rattle.im_select.specs.declared.words.Displaced.{Displaced}
use Rattle.im_select.specs.declared.branching.Test.{Test}
use Rattle.im_select.specs.declared.branching.Test.TheVariants.{Nonzero, Compares, ComparesZero}
use Rattle.im_select.specs.Emitted.{low_of, entry_label}

-- the place of an object, by its name: a static's in memory, another's in the frame
abbrev pub at_of : Given → Name → ℕ
at_of given (Named n) = if nat_lt n (length given.statics) then slice_index given.statics n else slice_index given.layout.places.items (n - given.function.first_object)
at_of given (Slot n) = 8 + 8 * n
at_of given Link = 0

-- the statics lie in their region, the function's objects in its frame; behind the labels of functions come those of blocks
pub record HasPlaces (given : Given) : Type 0 where
  pub low : (n : ℕ) → n < length given.statics → slice_index given.statics n < statics_start + statics_capacity
  pub first : length given.statics ≤ given.function.first_object
  pub layout : IsLayout given.function given.layout
  pub entries : entry_label given.functions ≤ given.first_block
  pub blocks : given.first_block + length given.function.blocks.items < 2 ^ 32

-- the function that is called is one of so many
abbrev pub CallsBelow : ℕ → Line → Type 0
CallsBelow functions (Call to function first count) = function < functions
CallsBelow functions line = Unit {0}

-- a test of registers of the machine
abbrev pub IsTest : Test → Type 0
IsTest (Nonzero on) = on < 32
IsTest (Compares op kind left right) = (left < 32) × (right < 32)
IsTest (ComparesZero op kind left right) = (left < 32) × (right < 32)

-- a register and an offset of 12 bits, the low part of a number
pub record IsDisplaced (d : Displaced) (base n : ℕ) : Type 0 where
  pub base_is : d.base ≡ base
  pub register : d.base < 32
  pub low : word d.low ≡ low_of n
  pub bits : IsTrue (in_signed 11 d.low)
