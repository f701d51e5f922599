-- Block code to which placing can give registers and slots.
use Rattle.std.specs.Prelude.{◌≡◌, ◌≢◌, ◌<◌, ◌≤◌, ◌⊎◌, ◌/◌, ◌^◌, ℕ, ◌+◌, ◌*◌, List, [], ◌∷◌, Some, None, length, slice_get, All}
use Rattle.im_num.specs.declared.kind.Kind.TheVariants.{Ptr}
use Rattle.im_serve.specs.Services.{row, IsNullary, IsUnary}
use Rattle.im_block.specs.declared.code.Line.{Line}
use Rattle.im_block.specs.declared.code.Line.TheVariants.{Put, PutNull, Copy, Convert, Unary, Not, Compute, Compare, Move, Distance, Address, Read, Write, Reload, Spill, Cut, Call, Serve}
use Rattle.im_block.specs.declared.code.Exit.{Exit}
use Rattle.im_block.specs.declared.code.Exit.TheVariants.{Jump, Turn, Branch, Return}
use Rattle.im_block.specs.declared.code.Block.{Block}
use Rattle.im_block.specs.declared.unit.Object.{Object}
use Rattle.im_block.specs.declared.unit.Registers.TheVariants.{Virtual}
use Rattle.im_block.specs.declared.unit.Function.{Function}
use Rattle.im_block.specs.declared.unit.Unit.{Unit as Code}
use Rattle.im_block.specs.Paths.{IsEdge}
use Rattle.im_block.specs.Shape.{sum_of}
use Rattle.im_alloc_placed.specs.Operands.{IsPromoted, PlaceExists, PlaceFrom}

-- operators are on promoted kinds, objects are there, calls have at most eight arguments, and slots have no lines yet
abbrev pub IsPlaceableLine : ℕ → Function → Line → Type 0
IsPlaceableLine statics f (Put to z) = Unit {0}
IsPlaceableLine statics f (PutNull to) = Unit {0}
IsPlaceableLine statics f (Copy to from) = Unit {0}
IsPlaceableLine statics f (Convert to kind from) = kind ≢ Ptr
IsPlaceableLine statics f (Unary to op kind from) = IsPromoted kind
IsPlaceableLine statics f (Not to from) = Unit {0}
IsPlaceableLine statics f (Compute to op kind left right) = IsPromoted kind
IsPlaceableLine statics f (Compare to op kind left right) = IsPromoted kind ⊎ (kind ≡ Ptr)
IsPlaceableLine statics f (Move to size back pointer by) = size < 2 ^ 32
IsPlaceableLine statics f (Distance to size left right) = (0 < size) × (size < 2 ^ 31)
IsPlaceableLine statics f (Address to place) = PlaceExists statics f place
IsPlaceableLine statics f (Read to place kind access) = PlaceExists statics f place
IsPlaceableLine statics f (Write place kind from access) = PlaceExists statics f place
IsPlaceableLine statics f (Reload to slot access) = ⊥
IsPlaceableLine statics f (Spill slot from access) = ⊥
IsPlaceableLine statics f (Cut cause) = Unit {0}
IsPlaceableLine statics f (Call to i first count) = count ≤ 8
IsPlaceableLine statics f (Serve to service None) = IsNullary (row service).parameter
IsPlaceableLine statics f (Serve to service (Some from)) = IsUnary (row service).parameter

-- the registers that a line uses and sets are those from a number on
abbrev pub LineFrom : ℕ → Line → Type 0
LineFrom n (Put to z) = n ≤ to
LineFrom n (PutNull to) = n ≤ to
LineFrom n (Copy to from) = (n ≤ to) × (n ≤ from)
LineFrom n (Convert to kind from) = (n ≤ to) × (n ≤ from)
LineFrom n (Unary to op kind from) = (n ≤ to) × (n ≤ from)
LineFrom n (Not to from) = (n ≤ to) × (n ≤ from)
LineFrom n (Compute to op kind left right) = (n ≤ to) × (n ≤ left) × (n ≤ right)
LineFrom n (Compare to op kind left right) = (n ≤ to) × (n ≤ left) × (n ≤ right)
LineFrom n (Move to size back pointer by) = (n ≤ to) × (n ≤ pointer) × (n ≤ by)
LineFrom n (Distance to size left right) = (n ≤ to) × (n ≤ left) × (n ≤ right)
LineFrom n (Address to place) = (n ≤ to) × PlaceFrom n place
LineFrom n (Read to place kind access) = (n ≤ to) × PlaceFrom n place
LineFrom n (Write place kind from access) = PlaceFrom n place × (n ≤ from)
LineFrom n (Reload to slot access) = n ≤ to
LineFrom n (Spill slot from access) = n ≤ from
LineFrom n (Cut cause) = Unit {0}
LineFrom n (Call to i first count) = (n ≤ to) × (n ≤ first)
LineFrom n (Serve to service None) = n ≤ to
LineFrom n (Serve to service (Some from)) = (n ≤ to) × (n ≤ from)

abbrev pub ExitFrom : ℕ → Exit → Type 0
ExitFrom n (Jump b) = Unit {0}
ExitFrom n (Turn b) = Unit {0}
ExitFrom n (Branch on a b) = n ≤ on
ExitFrom n (Return None) = Unit {0}
ExitFrom n (Return (Some r)) = n ≤ r

-- the lines of an entry: first come writes, copies and conversions, which keep the arguments, and cuts; from the first other
-- line on no parameter is used or set
abbrev pub Receives : ℕ → List Line → Type 0
Receives n [] = Unit {0}
Receives n (Write place kind from access ∷ rest) = Receives n rest
Receives n (Cut cause ∷ rest) = Receives n rest
Receives n (Copy to from ∷ rest) = (n ≤ to) × Receives n rest
Receives n (Convert to kind from ∷ rest) = (n ≤ to) × Receives n rest
Receives n (line ∷ rest) = All (LineFrom n) (line ∷ rest)

-- the first register that is no parameter's
abbrev pub first_free : Function → ℕ
first_free f = f.first_parameter + f.parameters

-- bytes of a frame for an object: whole words, with an unused byte
abbrev pub object_room : Object → ℕ
object_room o = (o.size / 4 + 1) * 4

-- a frame has room for the return address, a slot for each register, and the objects
abbrev pub HasRoom : Function → Type 0
HasRoom f = 8 + 8 * f.register_count + sum_of object_room f.objects.items ≤ f.need

pub record IsPlaceableFunction (statics : ℕ) (f : Function) : Type 0 where
  pub registers : f.registers ≡ Virtual
  pub slots : f.slots ≡ 0
  pub first : f.first_parameter ≡ 0
  pub room : HasRoom f
  pub lines : (b : ℕ) (block : Block) → slice_get f.blocks.items b ≡ Some block → All (IsPlaceableLine statics f) block.lines.items
  -- parameters are used in the entry block alone, to which no edge leads
  pub others : (b : ℕ) (block : Block) → slice_get f.blocks.items b ≡ Some block → b ≢ f.entry → All (LineFrom (first_free f)) block.lines.items
  pub entry : (block : Block) → slice_get f.blocks.items f.entry ≡ Some block → Receives (first_free f) block.lines.items
  pub exits : (b : ℕ) (block : Block) → slice_get f.blocks.items b ≡ Some block → ExitFrom (first_free f) block.exit
  pub no_return : (b : ℕ) (block : Block) → slice_get f.blocks.items b ≡ Some block → IsEdge block.exit f.entry → f.parameters ≡ 0

pub record IsPlaceable (u : Code) : Type 0 where
  pub functions : All (IsPlaceableFunction (length u.statics.items)) u.functions.items
