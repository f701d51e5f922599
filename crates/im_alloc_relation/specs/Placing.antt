-- When homes are valid, what placed code is, and what it does.
use Rattle.std.specs.Prelude.{◌≡◌, ◌≢◌, ◌<◌, ◌≤◌, ◌⊎◌, ℕ, suc, ◌+◌, ◌*◌, Bool, true, List, [], ◌∷◌, Option, Some, None, length, slice_get}
use Rattle.std.specs.List.{AllZip}
use Rattle.im_store.specs.Outcomes.{Outcome, IsDefined}
use Rattle.im_block.specs.declared.code.Line.{Line}
use Rattle.im_block.specs.declared.code.Line.TheVariants.{Put, PutNull, Copy, Convert, Unary, Not, Compute, Compare, Move, Distance, Address, Read, Write, Reload, Spill, Cut, Call, Serve}
use Rattle.im_block.specs.declared.code.Exit.{Exit}
use Rattle.im_block.specs.declared.code.Block.{Block}
use Rattle.im_block.specs.declared.unit.Registers.TheVariants.{Virtual, Machine}
use Rattle.im_block.specs.declared.unit.Function.{Function}
use Rattle.im_block.specs.declared.unit.Unit.{Unit as Code}
use Rattle.im_block.specs.Meaning.{Setting, Event, Reads, Writes, Tests, Saves, Restores, Serves, Cuts}
use Rattle.im_block.specs.Runs.{Runs, uncut}
use Rattle.im_block.specs.Wellformed.{IsWellFormed}
use Rattle.im_block.specs.Unitwise.{EachFunction, AllZipFrom}
use Rattle.im_alloc_relation.specs.Homes.{Home, InRegister, InSlot, numbers_kept, needed, put_lines, exit_lines, put_exit}
use Rattle.im_alloc_relation.specs.Live.{lives}

-- what lives on has another home than what is set
abbrev pub KeepsHomes : (ℕ → Home) → ℕ → (ℕ → Bool) → Type 0
KeepsHomes h to after = (v : ℕ) → after v ≡ true → v ≢ to → h v ≢ h to

-- what lives across a call is in a slot
abbrev pub Survives : (ℕ → Home) → ℕ → (ℕ → Bool) → Type 0
Survives h to after = (v : ℕ) → after v ≡ true → v ≢ to → (n : ℕ) × (h v ≡ InSlot n) × (h v ≢ h to)

-- arguments don't overwrite each other on the way to x10 to x17
pub record Clear (h : ℕ → Home) (first count : ℕ) : Type 0 where
  pub few : count ≤ 8
  pub apart : (v r : ℕ) → first ≤ v → v < first + count → h v ≡ InRegister r → (r < 10) ⊎ (17 < r)

abbrev pub ValidLine : (ℕ → Home) → Line → (ℕ → Bool) → Type 0
ValidLine h (Put to z) after = KeepsHomes h to after
ValidLine h (PutNull to) after = KeepsHomes h to after
ValidLine h (Copy to from) after = KeepsHomes h to after
ValidLine h (Convert to kind from) after = KeepsHomes h to after
ValidLine h (Unary to op kind from) after = KeepsHomes h to after
ValidLine h (Not to from) after = KeepsHomes h to after
ValidLine h (Compute to op kind left right) after = KeepsHomes h to after
ValidLine h (Compare to op kind left right) after = KeepsHomes h to after
ValidLine h (Move to size back pointer by) after = KeepsHomes h to after
ValidLine h (Distance to size left right) after = KeepsHomes h to after
ValidLine h (Address to place) after = KeepsHomes h to after
ValidLine h (Read to place kind access) after = KeepsHomes h to after
ValidLine h (Write place kind from access) after = Unit {0}
ValidLine h (Reload to slot access) after = ⊥
ValidLine h (Spill slot from access) after = ⊥
ValidLine h (Cut cause) after = Unit {0}
ValidLine h (Call to i first count) after = Survives h to after × Clear h first count
ValidLine h (Serve to service from) after = Survives h to after

abbrev pub Valid : (ℕ → Home) → (ℕ → ℕ → Bool) → List Line → Exit → Type 0
Valid h live [] exit = Unit {0}
Valid h live (line ∷ rest) exit = ValidLine h line (lives live rest exit) × Valid h live rest exit

-- a block whose accesses to slots have numbers from n on
pub record PlacedBlock (h : ℕ → Home) (n : ℕ) (old new : Block) : Type 0 where
  pub lines : new.lines.items ≡ put_lines h n (needed old.exit old.lines.items) (exit_lines h (n + numbers_kept * length (needed old.exit old.lines.items)) old.exit)
  pub exit : new.exit ≡ put_exit h old.exit

-- block by block, each with the numbers behind those of the one before
abbrev pub number_behind : Block → ℕ → ℕ
number_behind block n = n + numbers_kept * suc (length (needed block.exit block.lines.items))

abbrev pub PlacedBlocks : (ℕ → Home) → ℕ → List Block → List Block → Type 0
PlacedBlocks h n old new = AllZipFrom number_behind (PlacedBlock h) n old new

-- homes of a function's registers, and what lives at the start of each of its blocks: of virtual registers and, where their
-- homes are registers, of these. At the entry only parameters live in registers
pub record PlacedFunction (old new : Function) : Type 0 where
  pub home : ℕ → Home
  pub live : ℕ → ℕ → Bool
  pub wanted : ℕ → ℕ → Bool
  pub first_access : ℕ
  pub blocks : PlacedBlocks home first_access old.blocks.items new.blocks.items
  pub virtual : (old.registers ≡ Virtual) × (old.slots ≡ 0)
  pub rest : new ≡ record old { registers = Machine; register_count = 32; first_parameter = 10; slots = new.slots; blocks = new.blocks }
  pub received : (k : ℕ) → k < old.parameters → home (old.first_parameter + k) ≡ InRegister (10 + k)
  pub slots : (v n : ℕ) → home v ≡ InSlot n → n < new.slots
  pub free : (v r : ℕ) → home v ≡ InRegister r → (8 < r) × (r < 32)
  pub valid : (b : ℕ) (block : Block) → slice_get old.blocks.items b ≡ Some block → Valid home live block.lines.items block.exit
  pub closed : (b : ℕ) (block : Block) (v : ℕ) → slice_get old.blocks.items b ≡ Some block → lives live block.lines.items block.exit v ≡ true → live b v ≡ true
  pub held : (b v r : ℕ) → live b v ≡ true → home v ≡ InRegister r → wanted b r ≡ true
  pub holds : (b r : ℕ) → wanted b r ≡ true → (v : ℕ) × (live b v ≡ true) × (home v ≡ InRegister r)
  pub entered : (v r : ℕ) → live old.entry v ≡ true → home v ≡ InRegister r → (10 ≤ r) × (r < 10 + old.parameters)

abbrev pub PlacedFunctions : List Function → List Function → Type 0
PlacedFunctions old new = AllZip PlacedFunction old new

abbrev pub IsPlaced : Code → Code → Type 0
IsPlaced old new = EachFunction PlacedFunction old new

-- events but for those on slots
abbrev pub beside : Option ℕ → Event → List Event → List Event
beside None e run = e ∷ run
beside (Some slot) e run = run

abbrev pub unslotted : List Event → List Event
unslotted [] = []
unslotted (Reads site by o i ∷ run) = beside site.slot (Reads site by o i) (unslotted run)
unslotted (Writes site by o i ∷ run) = beside site.slot (Writes site by o i) (unslotted run)
unslotted (Tests ∷ run) = Tests ∷ unslotted run
unslotted (Saves by ∷ run) = Saves by ∷ unslotted run
unslotted (Restores by ∷ run) = Restores by ∷ unslotted run
unslotted (Serves ∷ run) = Serves ∷ unslotted run
unslotted (Cuts ∷ run) = Cuts ∷ unslotted run

-- placed code has the outcome of the block code and its events, but for accesses to slots and for more cuts
abbrev pub PlaceKeeps : Type 0
PlaceKeeps =
    (u v : Code) → IsWellFormed u → IsPlaced u v → (g : Setting) (n : ℕ) (o : Outcome) (run : List Event) → IsDefined o → Runs u g n o run →
    (run' : List Event) × Runs v g n o run' × (uncut (unslotted run') ≡ uncut run)

-- no call has more than eight arguments, and no line is one of placed code
abbrev pub IsBlockLine : Line → Type 0
IsBlockLine (Call to i first count) = count ≤ 8
IsBlockLine (Reload to slot access) = ⊥
IsBlockLine (Spill slot from access) = ⊥
IsBlockLine line = Unit {0}

abbrev pub AreBlockLines : List Line → Type 0
AreBlockLines [] = Unit {0}
AreBlockLines (line ∷ rest) = IsBlockLine line × AreBlockLines rest

-- each register in a slot of its own is valid for any code, whatever lives
abbrev pub SlotsLaw : Type 0
SlotsLaw =
    (h : ℕ → Home) → ((v : ℕ) → h v ≡ InSlot v) → (live : ℕ → ℕ → Bool) (lines : List Line) (exit : Exit) →
    AreBlockLines lines → Valid h live lines exit
