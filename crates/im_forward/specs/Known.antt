-- The copies that are known at a line, and what each step makes of a block.
use Rattle.std.specs.Prelude.{◌≡◌, ◌≤◌, ◌<◌, ◌==◌, ◌&&◌, ◌⊎◌, ℕ, ◌+◌, Bool, false, not, if◌then◌else◌, List, [], ◌∷◌, Option, Some, None, All, slice_index}
use Rattle.im_block.specs.declared.code.Line.{Line}
use Rattle.im_block.specs.declared.code.Line.TheVariants.{Copy}
use Rattle.im_block.specs.declared.code.Exit.{Exit}
use Rattle.im_block.specs.declared.code.Block.{Block}
use Rattle.im_block.specs.declared.unit.Registers.TheVariants.{Virtual}
use Rattle.im_block.specs.declared.unit.Function.{Function}
use Rattle.im_block.specs.Unitwise.{EachBlock}
use Rattle.im_alloc_placed.specs.Placeable.{first_free}
use Rattle.im_alloc_relation.specs.Live.{lives}
use Rattle.im_block_live.specs.Words.{has, AreWithin}
use Rattle.im_forward.specs.declared.copies.Known.{Known}
use Rattle.im_forward.specs.Copies.{IsCopy}
use Rattle.im_forward.specs.Forward.{ForwardsBlock}

-- the register to use in the place of one
abbrev pub instead_of : List Known → ℕ → ℕ
instead_of [] v = v
instead_of (k ∷ ks) v = if v == k.register then k.source else instead_of ks v

abbrev pub is_one : Option ℕ → ℕ → Bool
is_one None v = false
is_one (Some r) v = v == r

abbrev pub is_without : ℕ → Known → Bool
is_without r k = not (k.register == r) && not (k.source == r)

-- what is known behind lines of a block, the last first
pub record IsKnown (free : ℕ) (before : List Line) (k : Known) : Type 0 where
  pub copy : IsCopy before k.register k.source
  pub no_parameter : free ≤ k.source

abbrev pub AreKnown : ℕ → List Line → List Known → Type 0
AreKnown free before copies = All (IsKnown free before) copies

-- what is known before a line, and behind it
abbrev pub Passes : ℕ → Line → List Known → List Known → Type 0
Passes free line old new = (before : List Line) → AreKnown free before old → AreKnown free (line ∷ before) new

abbrev pub PassesCopy : ℕ → ℕ → ℕ → List Known → List Known → Type 0
PassesCopy free to from old new = Passes free (Copy to from) old new

-- ---- first, what used a copy uses what was copied, and each line stays, whatever lives

abbrev pub UsesSources : ℕ → Block → Block → Type 0
UsesSources free old new = (live : ℕ → ℕ → Bool) → ForwardsBlock free live old new

abbrev pub AllUseSources : Function → Function → Type 0
AllUseSources old new = EachBlock (UsesSources (first_free old)) old new

-- ---- then, copies that nothing uses are left out

-- a register of a group of 32 that is not in their set
pub record IsOutside (base set register : ℕ) : Type 0 where
  pub bit : ℕ
  pub is : register ≡ base + bit
  pub small : bit < 32
  pub dead : has set bit ≡ false

-- a copy to a register of the group that doesn't live behind it
abbrev pub IsDead : ℕ → ℕ → Line → Type 0
IsDead base behind (Copy to from) = IsOutside base behind to
IsDead base behind line = ⊥

-- a copy to a register that doesn't live behind it
abbrev pub IsIdle : (ℕ → ℕ → Bool) → Exit → List Line → Line → Type 0
IsIdle live exit behind (Copy to from) = lives live behind exit to ≡ false
IsIdle live exit behind line = ⊥

-- each line stays, or is a copy to a register that doesn't live in the new lines
abbrev pub LeavesOutLines : (ℕ → ℕ → Bool) → Exit → List Line → List Line → Type 0
LeavesOutLines live exit [] new = new ≡ []
LeavesOutLines live exit (line ∷ old) new =
    ((rest : List Line) × (new ≡ line ∷ rest) × LeavesOutLines live exit old rest) ⊎ (IsIdle live exit new line × LeavesOutLines live exit old new)

pub record LeavesOut (live : ℕ → ℕ → Bool) (old new : Block) : Type 0 where
  pub lines : LeavesOutLines live old.exit old.lines.items new.lines.items
  pub exit : new.exit ≡ old.exit

-- words of 32 registers are what lives of them
abbrev pub AreOf : (ℕ → ℕ → Bool) → ℕ → List ℕ → Type 0
AreOf live base starts = (b j : ℕ) → j < 32 → has (slice_index starts b) j ≡ live b (base + j)

abbrev pub LeavesOutGroup : ℕ → List ℕ → Block → Block → Type 0
LeavesOutGroup base starts old new = (live : ℕ → ℕ → Bool) → AreOf live base starts → LeavesOut live old new

abbrev pub AllLeaveOut : (ℕ → ℕ → Bool) → Function → Function → Type 0
AllLeaveOut live old new = EachBlock (LeavesOut live) old new

-- what a function of a unit has
pub record IsReady (f : Function) : Type 0 where
  pub virtual : f.registers ≡ Virtual
  pub received : first_free f ≤ f.register_count
  pub within : AreWithin f
