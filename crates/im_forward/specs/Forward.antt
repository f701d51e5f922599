-- Copies are forwarded to those that use them: what used a copy uses what was copied, and a copy that nothing uses any more is
-- left out. Arguments of calls stay where they are, since they stand side by side. What a line computes goes straight to where
-- it is kept.
use Rattle.std.specs.Prelude.{◌≡◌, ◌≤◌, ◌⊎◌, ℕ, Bool, true, false, List, [], ◌∷◌, Some, None, slice_get}
use Rattle.std.specs.List.{AllZip}
use Rattle.im_block.specs.declared.code.Place.{Place}
use Rattle.im_block.specs.declared.code.Place.TheVariants.{Static, Local, Through}
use Rattle.im_block.specs.declared.code.Line.{Line}
use Rattle.im_block.specs.declared.code.Line.TheVariants.{Copy, Convert, Unary, Not, Compute, Compare, Move, Distance, Address, Read, Write, Spill, Serve}
use Rattle.im_block.specs.declared.code.Exit.{Exit}
use Rattle.im_block.specs.declared.code.Exit.TheVariants.{Jump, Turn, Branch, Return}
use Rattle.im_block.specs.declared.code.Block.{Block}
use Rattle.im_block.specs.declared.unit.Registers.TheVariants.{Virtual}
use Rattle.im_block.specs.declared.unit.Function.{Function}
use Rattle.im_block.specs.declared.unit.Unit.{Unit as Code}
use Rattle.im_block.specs.Unitwise.{EachFunction}
use Rattle.im_alloc_placed.specs.Placeable.{first_free}
use Rattle.im_alloc_relation.specs.Live.{lives}
use Rattle.im_forward.specs.Copies.{IsSame}
use Rattle.im_forward.specs.Straight.{setting, IsPair}

-- a line and an exit with other registers in the place of those that they use; what they set stays

abbrev pub place_using : (ℕ → ℕ) → Place → Place
place_using instead (Static object offset) = Static object offset
place_using instead (Local object offset) = Local object offset
place_using instead (Through pointer offset) = Through (instead pointer) offset

abbrev pub line_using : (ℕ → ℕ) → Line → Line
line_using instead (Copy to from) = Copy to (instead from)
line_using instead (Convert to kind from) = Convert to kind (instead from)
line_using instead (Unary to op kind from) = Unary to op kind (instead from)
line_using instead (Not to from) = Not to (instead from)
line_using instead (Compute to op kind left right) = Compute to op kind (instead left) (instead right)
line_using instead (Compare to op kind left right) = Compare to op kind (instead left) (instead right)
line_using instead (Move to size back pointer by) = Move to size back (instead pointer) (instead by)
line_using instead (Distance to size left right) = Distance to size (instead left) (instead right)
line_using instead (Address to place) = Address to (place_using instead place)
line_using instead (Read to place kind access) = Read to (place_using instead place) kind access
line_using instead (Write place kind from access) = Write (place_using instead place) kind (instead from) access
line_using instead (Spill slot from access) = Spill slot (instead from) access
line_using instead (Serve to service (Some from)) = Serve to service (Some (instead from))
line_using instead line = line

abbrev pub exit_using : (ℕ → ℕ) → Exit → Exit
exit_using instead (Jump b) = Jump b
exit_using instead (Turn b) = Turn b
exit_using instead (Branch on a b) = Branch (instead on) a b
exit_using instead (Return None) = Return None
exit_using instead (Return (Some r)) = Return (Some (instead r))

-- registers that may be used behind lines of a block, the last first, in the place of others: they have the same values, and no
-- parameter comes in, of which none is from `free` on
pub record MayUse (free : ℕ) (before : List Line) (instead : ℕ → ℕ) : Type 0 where
  pub same : (v : ℕ) → IsSame before v (instead v)
  pub no_parameter : (v : ℕ) → (instead v ≡ v) ⊎ (free ≤ instead v)

pub record ForwardsLine (free : ℕ) (before : List Line) (old new : Line) : Type 0 where
  pub instead : ℕ → ℕ
  pub may : MayUse free before instead
  pub line : new ≡ line_using instead old

pub record ForwardsExit (free : ℕ) (before : List Line) (old new : Exit) : Type 0 where
  pub instead : ℕ → ℕ
  pub may : MayUse free before instead
  pub exit : new ≡ exit_using instead old

-- what is left of a block and of the new one, behind lines of the old block, the last first. A copy is left out where its register
-- doesn't live in the new code. What a line sets goes straight to where the next one keeps it
pub data ForwardsLines (free : ℕ) (live : ℕ → ℕ → Bool) (leaves leaves' : Exit) : List Line → List Line → List Line → Type 0 where
  Ends : (before : List Line) → ForwardsExit free before leaves leaves' → ForwardsLines free live leaves leaves' before [] []
  Kept : (before old new : List Line) (x y : Line) → ForwardsLine free before x y → ForwardsLines free live leaves leaves' (x ∷ before) old new → ForwardsLines free live leaves leaves' before (x ∷ old) (y ∷ new)
  LeftOut : (before old new : List Line) (to from : ℕ) → lives live new leaves' to ≡ false → ForwardsLines free live leaves leaves' (Copy to from ∷ before) old new → ForwardsLines free live leaves leaves' before (Copy to from ∷ old) new
  Straight : (before old new : List Line) (x y : Line) (t v : ℕ) → IsPair live leaves' new x y t v → ForwardsLines free live leaves leaves' (y ∷ x ∷ before) old new → ForwardsLines free live leaves leaves' before (x ∷ y ∷ old) (setting v x ∷ new)

pub record ForwardsBlock (free : ℕ) (live : ℕ → ℕ → Bool) (old new : Block) : Type 0 where
  pub lines : ForwardsLines free live old.exit new.exit [] old.lines.items new.lines.items

-- one step. live b: what lives at the start of block b of the new code
pub record ForwardsOnce (old new : Function) : Type 0 where
  pub live : ℕ → ℕ → Bool
  pub closed : (b : ℕ) (block : Block) (v : ℕ) → slice_get new.blocks.items b ≡ Some block → lives live block.lines.items block.exit v ≡ true → live b v ≡ true
  pub blocks : AllZip (ForwardsBlock (first_free old) live) old.blocks.items new.blocks.items
  pub virtual : old.registers ≡ Virtual
  pub rest : new ≡ record old { blocks = new.blocks }

-- one step after the other
pub data ForwardsFunction : Function → Function → Type 0 where
  Once : (old new : Function) → ForwardsOnce old new → ForwardsFunction old new
  Then : (old middle new : Function) → ForwardsOnce old middle → ForwardsFunction middle new → ForwardsFunction old new

abbrev pub ForwardsFunctions : List Function → List Function → Type 0
ForwardsFunctions old new = AllZip ForwardsFunction old new

abbrev pub Forwards : Code → Code → Type 0
Forwards old new = EachFunction ForwardsFunction old new
