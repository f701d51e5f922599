-- Placed code: block code over the machine's registers, in the forms that selection has.
use Rattle.std.specs.Prelude.{◌≡◌, ◌≢◌, ◌<◌, ◌≤◌, ◌⊎◌, ◌/◌, ◌^◌, ℕ, ◌+◌, ◌*◌, Option, Some, None, length, All}
use Rattle.im_num.specs.declared.kind.Kind.TheVariants.{Ptr}
use Rattle.im_serve.specs.Services.{row, IsNullary, IsUnary}
use Rattle.im_block.specs.declared.code.Line.{Line}
use Rattle.im_block.specs.declared.code.Line.TheVariants.{Put, PutNull, Copy, Convert, Unary, Not, Compute, Compare, Move, Distance, Address, Read, Write, Reload, Spill, Cut, Call, Serve}
use Rattle.im_block.specs.declared.code.Exit.{Exit}
use Rattle.im_block.specs.declared.code.Exit.TheVariants.{Jump, Turn, Branch, Return}
use Rattle.im_block.specs.declared.code.Block.{Block}
use Rattle.im_block.specs.declared.unit.Object.{Object}
use Rattle.im_block.specs.declared.unit.Registers.TheVariants.{Machine}
use Rattle.im_block.specs.declared.unit.Function.{Function}
use Rattle.im_block.specs.declared.unit.Unit.{Unit as Code}
use Rattle.im_block.specs.Shape.{sum_of}
use Rattle.im_alloc_placed.specs.Operands.{IsHome, IsPromoted, PlaceExists, PlaceAtHome}

-- registers are homes, operators on promoted kinds; arguments are in x10 and on, results in x10
abbrev pub IsPlacedLine : ℕ → Function → Line → Type 0
IsPlacedLine statics f (Put to z) = IsHome to
IsPlacedLine statics f (PutNull to) = IsHome to
IsPlacedLine statics f (Copy to from) = IsHome to × IsHome from
IsPlacedLine statics f (Convert to kind from) = IsHome to × IsHome from × (kind ≢ Ptr)
IsPlacedLine statics f (Unary to op kind from) = IsHome to × IsHome from × IsPromoted kind
IsPlacedLine statics f (Not to from) = IsHome to × IsHome from
IsPlacedLine statics f (Compute to op kind left right) = IsHome to × IsHome left × IsHome right × IsPromoted kind
IsPlacedLine statics f (Compare to op kind left right) = IsHome to × IsHome left × IsHome right × (IsPromoted kind ⊎ (kind ≡ Ptr))
IsPlacedLine statics f (Move to size back pointer by) = IsHome to × IsHome pointer × IsHome by × (size < 2 ^ 32)
IsPlacedLine statics f (Distance to size left right) = IsHome to × IsHome left × IsHome right × (0 < size) × (size < 2 ^ 31)
IsPlacedLine statics f (Address to place) = IsHome to × PlaceAtHome place × PlaceExists statics f place
IsPlacedLine statics f (Read to place kind access) = IsHome to × PlaceAtHome place × PlaceExists statics f place
IsPlacedLine statics f (Write place kind from access) = IsHome from × PlaceAtHome place × PlaceExists statics f place
IsPlacedLine statics f (Reload to slot access) = IsHome to × (slot < f.slots)
IsPlacedLine statics f (Spill slot from access) = IsHome from × (slot < f.slots)
IsPlacedLine statics f (Cut cause) = Unit {0}
IsPlacedLine statics f (Call to i first count) = (to ≡ 10) × (first ≡ 10) × (count ≤ 8)
IsPlacedLine statics f (Serve to service None) = (to ≡ 10) × IsNullary (row service).parameter
IsPlacedLine statics f (Serve to service (Some from)) = (to ≡ 10) × (from ≡ 10) × IsUnary (row service).parameter

abbrev pub IsResult : Option ℕ → Type 0
IsResult None = Unit {0}
IsResult (Some r) = r ≡ 10

abbrev pub IsPlacedExit : Exit → Type 0
IsPlacedExit (Jump b) = Unit {0}
IsPlacedExit (Turn b) = Unit {0}
IsPlacedExit (Branch on a b) = IsHome on
IsPlacedExit (Return from) = IsResult from

pub record IsPlacedBlock (statics : ℕ) (f : Function) (b : Block) : Type 0 where
  pub lines : All (IsPlacedLine statics f) b.lines.items
  pub exit : IsPlacedExit b.exit

-- bytes of a frame: the return address, the slots, and the objects, each with an unused byte behind it
abbrev pub frame_bytes : Function → ℕ
frame_bytes f = 8 + 8 * f.slots + sum_of (λ (o : Object). (o.size / 4 + 1) * 4) f.objects.items

pub record IsPlacedFunction (statics : ℕ) (f : Function) : Type 0 where
  pub registers : f.registers ≡ Machine
  pub count : f.register_count ≡ 32
  pub received : f.first_parameter ≡ 10
  pub fits : frame_bytes f ≤ f.need
  pub blocks : All (IsPlacedBlock statics f) f.blocks.items

pub record IsPlacedCode (u : Code) : Type 0 where
  pub functions : All (IsPlacedFunction (length u.statics.items)) u.functions.items
