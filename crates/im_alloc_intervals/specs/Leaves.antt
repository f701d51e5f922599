-- Functions that need no slot: they call nothing, and at most 20 intervals hold any one of their lines.
use Rattle.std.specs.Prelude.{◌≡◌, ◌<◌, ◌≤◌, ◌⊎◌, ℕ, zero, suc, ◌+◌, Bool, true, false, List, [], ◌∷◌, Option, Some, None, length, slice_get, drop}
use Rattle.im_block.specs.declared.code.Line.{Line}
use Rattle.im_block.specs.declared.code.Exit.{Exit}
use Rattle.im_block.specs.declared.code.Block.{Block}
use Rattle.im_block.specs.declared.unit.Function.{Function}
use Rattle.im_block.specs.Sections.{Has}
use Rattle.im_block.specs.Shape.{sum_of}
use Rattle.im_alloc_placed.specs.Placeable.{first_free}
use Rattle.im_alloc_relation.specs.Live.{sets, lives}
use Rattle.im_alloc_relation.specs.Reads.{reads_first}
use Rattle.im_alloc_relation.specs.Settled.{IsCall}

-- lines and exits have positions, through the function from its last block to its first. Edges but loop edges lead to blocks of lower
-- numbers, so this is the order in which they run
abbrev pub size_of : Block → ℕ
size_of block = suc (length block.lines.items)

abbrev pub position : List Block → ℕ → ℕ → ℕ
position blocks b i = sum_of size_of (drop (suc b) blocks) + i

-- a register lives at a point: from there some path reads it before it sets it
abbrev pub LivesBefore : List Block → List Line → Exit → ℕ → Type 0
LivesBefore blocks lines exit v = (n : ℕ) × (lives (reads_first blocks n) lines exit v ≡ true)

abbrev pub sets_at : Option Line → ℕ → Bool
sets_at None v = false
sets_at (Some line) v = sets line v

abbrev pub sets_behind : List Line → ℕ → ℕ → Bool
sets_behind lines zero v = false
sets_behind lines (suc i) v = sets_at (slice_get lines i) v

-- a register lives before the line, or the exit, at a position, or the line before it sets it
pub record IsNeededAt (blocks : List Block) (v p : ℕ) : Type 0 where
  pub b : ℕ
  pub i : ℕ
  pub block : Block
  pub at : slice_get blocks b ≡ Some block
  pub inside : i ≤ length block.lines.items
  pub is : p ≡ position blocks b i
  pub needed : LivesBefore blocks (drop i block.lines.items) block.exit v ⊎ (sets_behind block.lines.items i v ≡ true)

-- a register's interval holds what lies between the first and the last of these positions. A parameter's begins with the function
pub record HoldsAt (f : Function) (v p : ℕ) : Type 0 where
  pub first : ℕ
  pub last : ℕ
  pub begins : IsNeededAt f.blocks.items v first
  pub ends : IsNeededAt f.blocks.items v last
  pub low : (first ≤ p) ⊎ (v < first_free f)
  pub high : p ≤ last

abbrev pub AreDistinct : List ℕ → Type 0
AreDistinct [] = Unit {0}
AreDistinct (x ∷ xs) = (Has xs x → ⊥) × AreDistinct xs

-- at most so many intervals hold any one position
pub record IsTight (f : Function) (most : ℕ) : Type 0 where
  pub few : (p : ℕ) (vs : List ℕ) → AreDistinct vs → ((v : ℕ) → Has vs v → HoldsAt f v p) → length vs ≤ most

pub record IsLeaf (f : Function) : Type 0 where
  pub none : (b : ℕ) (block : Block) (i : ℕ) (line : Line) → slice_get f.blocks.items b ≡ Some block → slice_get block.lines.items i ≡ Some line → IsCall line → ⊥

-- at the entry nothing lives but parameters
pub record NothingElseEnters (f : Function) : Type 0 where
  pub only : (v n : ℕ) → reads_first f.blocks.items n f.entry v ≡ true → v < first_free f

abbrev pub NeedsNoSlot : Function → ℕ → Type 0
NeedsNoSlot f slots = IsLeaf f → IsTight f 20 → NothingElseEnters f → slots ≡ 0
