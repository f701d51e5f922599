-- Sets of the registers x0 to x31 as words: bit r for register r.
use Rattle.std.specs.Prelude.{◌≡◌, ℕ, ◌+◌, ◌<◌, ◌≤◌, ◌^◌, ◌==◌, Bool, true, List, [], ◌∷◌, ◌++◌, Option, None, Some, All, length, drop, slice_get, slice_index, slice_set, bit_or, not, ◌||◌}
use Rattle.std.specs.Int.{bit_at}
use Rattle.im_block.specs.declared.code.Place.{Place}
use Rattle.im_block.specs.declared.code.Place.TheVariants.{Static, Local, Through}
use Rattle.im_block.specs.declared.code.Line.{Line}
use Rattle.im_block.specs.declared.code.Line.TheVariants.{Put, PutNull, Copy, Convert, Unary, Not, Compute, Compare, Move, Distance, Address, Read, Write, Reload, Spill, Cut, Call, Serve}
use Rattle.im_block.specs.declared.code.Exit.{Exit}
use Rattle.im_block.specs.declared.code.Exit.TheVariants.{Jump, Turn, Branch, Return}
use Rattle.im_block.specs.declared.code.Block.{Block}
use Rattle.im_live.specs.Entries.{entry_of}
use Rattle.im_live.specs.Reads.{lives_before, reads_first, IsLive}

abbrev pub has : ℕ → ℕ → Bool
has word r = bit_at word r == 1

-- words of blocks, as what lives at their starts
abbrev pub starts_have : List ℕ → ℕ → ℕ → Bool
starts_have starts b r = has (slice_index starts b) r

-- the words of a block's points: before each line, and before the exit
pub record ArePoints (live : ℕ → ℕ → Bool) (lines : List Line) (exit : Exit) (words : List ℕ) : Type 0 where
  pub count : length words ≡ length lines + 1
  pub each : (j r : ℕ) → j ≤ length lines → r < 32 → has (slice_index words j) r ≡ lives_before live (drop j lines) exit r

-- the entry for the line before a point, by the words of a block's points
abbrev pub entry_at : List ℕ → ℕ → ℕ
entry_at points j = entry_of (has (slice_index points (j + 1)))

-- the words of all points of a function, block by block
abbrev pub AllPoints : (ℕ → ℕ → Bool) → List Block → List ℕ → Type 0
AllPoints live [] words = words ≡ []
AllPoints live (block ∷ blocks) words = (first : List ℕ) × (rest : List ℕ) × (words ≡ first ++ rest) × ArePoints live block.lines.items block.exit first × AllPoints live blocks rest

pub record ArePointsOf (blocks : List Block) (words : List ℕ) : Type 0 where
  pub live : ℕ → ℕ → Bool
  pub is_live : IsLive blocks live
  pub points : AllPoints live blocks words

-- bits of words are registers that live, by the paths that were looked at
abbrev pub AreRead : List Block → List ℕ → Type 0
AreRead blocks starts = (b r : ℕ) → b < length blocks → r < 32 → starts_have starts b r ≡ true → (n : ℕ) × (reads_first blocks n b r ≡ true)

-- and a register that lives before a block's lines has its bit
abbrev pub AreClosed : List Block → List ℕ → Type 0
AreClosed blocks starts = (b r : ℕ) (block : Block) → slice_get blocks b ≡ Some block → r < 32 → lives_before (starts_have starts) block.lines.items block.exit r ≡ true → starts_have starts b r ≡ true

abbrev pub AreWords : List ℕ → Type 0
AreWords starts = All (λ word. word < 2 ^ 32) starts

-- what one block adds to the words: those before its lines come to its own. joined: the word now
pub record Joins (block : Block) (number : ℕ) (old new : List ℕ) (was_news is_news : Bool) : Type 0 where
  pub word : ℕ
  pub small : word < 2 ^ 32
  pub lives : (r : ℕ) → r < 32 → has word r ≡ lives_before (starts_have old) block.lines.items block.exit r
  pub new_is : new ≡ slice_set old number (bit_or (slice_index old number) word)
  pub news : is_news ≡ (was_news || not (bit_or (slice_index old number) word == slice_index old number))

-- lines and exits name registers of the machine
abbrev pub PlaceBelow : Place → Type 0
PlaceBelow (Static object offset) = Unit {0}
PlaceBelow (Local object offset) = Unit {0}
PlaceBelow (Through pointer offset) = pointer < 32

abbrev pub IsMachineLine : Line → Type 0
IsMachineLine (Put to z) = to < 32
IsMachineLine (PutNull to) = to < 32
IsMachineLine (Copy to from) = (to < 32) × (from < 32)
IsMachineLine (Convert to kind from) = (to < 32) × (from < 32)
IsMachineLine (Unary to op kind from) = (to < 32) × (from < 32)
IsMachineLine (Not to from) = (to < 32) × (from < 32)
IsMachineLine (Compute to op kind left right) = (to < 32) × (left < 32) × (right < 32)
IsMachineLine (Compare to op kind left right) = (to < 32) × (left < 32) × (right < 32)
IsMachineLine (Move to size back pointer by) = (to < 32) × (pointer < 32) × (by < 32)
IsMachineLine (Distance to size left right) = (to < 32) × (left < 32) × (right < 32)
IsMachineLine (Address to place) = (to < 32) × PlaceBelow place
IsMachineLine (Read to place kind access) = (to < 32) × PlaceBelow place
IsMachineLine (Write place kind from access) = (from < 32) × PlaceBelow place
IsMachineLine (Reload to slot access) = to < 32
IsMachineLine (Spill slot from access) = from < 32
IsMachineLine (Cut cause) = Unit {0}
IsMachineLine (Call to i first count) = first + count < 32
IsMachineLine (Serve to service None) = Unit {0}
IsMachineLine (Serve to service (Some from)) = from < 32

abbrev pub IsMachineResult : Option ℕ → Type 0
IsMachineResult None = Unit {0}
IsMachineResult (Some r) = r < 32

abbrev pub IsMachineExit : ℕ → Exit → Type 0
IsMachineExit count (Jump b) = b < count
IsMachineExit count (Turn b) = b < count
IsMachineExit count (Branch on a b) = (on < 32) × (a < count) × (b < count)
IsMachineExit count (Return from) = IsMachineResult from

-- edges lead to blocks, of which there are so many
pub record IsMachineBlock (count : ℕ) (block : Block) : Type 0 where
  pub lines : All IsMachineLine block.lines.items
  pub exit : IsMachineExit count block.exit

abbrev pub AreMachine : List Block → Type 0
AreMachine blocks = All (IsMachineBlock (length blocks)) blocks
