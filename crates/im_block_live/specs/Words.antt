-- Sets of 32 virtual registers as words: bit j for register base + j.
use Rattle.std.specs.Prelude.{◌≡◌, ℕ, ◌+◌, ◌*◌, ◌/◌, ◌%◌, ◌<◌, ◌≤◌, ◌^◌, ◌==◌, Bool, true, not, ◌||◌, false, List, Option, None, Some, Vec, All, length, drop, slice_get, slice_index, slice_set, bit_or}
use Rattle.std.specs.Int.{bit_at}
use Rattle.std.specs.declared.alloc.Global.{Global}
use Rattle.im_block.specs.declared.code.Line.{Line}
use Rattle.im_block.specs.declared.code.Exit.{Exit}
use Rattle.im_block.specs.declared.code.Block.{Block}
use Rattle.im_block.specs.declared.unit.Function.{Function}
use Rattle.im_block.specs.Wellformed.{LineWithin, ExitWithin, ExitThere}
use Rattle.im_alloc_relation.specs.Live.{lives}
use Rattle.im_block_live.specs.Reads.{reads_first}

abbrev pub has : ℕ → ℕ → Bool
has word j = bit_at word j == 1

-- words of blocks, as whether register j of the 32 lives at the start of block b, whatever it is called
abbrev pub starts_have : List ℕ → ℕ → ℕ → ℕ → Bool
starts_have starts j b v = has (slice_index starts b) j

-- bits of words are registers that live, by the paths that were looked at
abbrev pub AreRead : ℕ → List Block → List ℕ → Type 0
AreRead base blocks starts = (b j : ℕ) → b < length blocks → j < 32 → has (slice_index starts b) j ≡ true → (n : ℕ) × (reads_first blocks n b (base + j) ≡ true)

-- and a register that lives before a block's lines has its bit
abbrev pub AreClosed : ℕ → List Block → List ℕ → Type 0
AreClosed base blocks starts = (b j : ℕ) (block : Block) → slice_get blocks b ≡ Some block → j < 32 → lives (starts_have starts j) block.lines.items block.exit (base + j) ≡ true → has (slice_index starts b) j ≡ true

abbrev pub AreWords : List ℕ → Type 0
AreWords starts = All (λ word. word < 2 ^ 32) starts

-- the words of 32 registers: exactly what lives
pub record AreStarts (base : ℕ) (blocks : List Block) (starts : List ℕ) : Type 0 where
  pub count : length starts ≡ length blocks
  pub read : AreRead base blocks starts
  pub closed : AreClosed base blocks starts

-- what one block adds to the words: what lives before its lines comes to its own
pub record Joins (base : ℕ) (block : Block) (number : ℕ) (old new : List ℕ) (was_news is_news : Bool) : Type 0 where
  pub word : ℕ
  pub small : word < 2 ^ 32
  pub lives_there : (j : ℕ) → j < 32 → has word j ≡ lives (starts_have old j) block.lines.items block.exit (base + j)
  pub new_is : new ≡ slice_set old number (bit_or (slice_index old number) word)
  pub news : is_news ≡ (was_news || not (bit_or (slice_index old number) word == slice_index old number))

-- edges lead to blocks
abbrev pub AreLinked : List Block → Type 0
AreLinked blocks = All (λ (b : Block). ExitThere (length blocks) b.exit) blocks

-- groups of 32 registers: register 32 * i + j is bit j of group i
abbrev pub group_has : Option (Vec ℕ Global) → ℕ → ℕ → Bool
group_has None b j = false
group_has (Some words) b j = has (slice_index words.items b) j

abbrev pub groups_have : List (Vec ℕ Global) → ℕ → ℕ → Bool
groups_have groups b v = group_has (slice_get groups (v / 32)) b (v % 32)

-- what the code names is there: registers of the function, and blocks
pub record IsWithin (registers blocks : ℕ) (block : Block) : Type 0 where
  pub lines : All (LineWithin registers) block.lines.items
  pub exit : ExitWithin registers block.exit
  pub there : ExitThere blocks block.exit

abbrev pub AreWithin : Function → Type 0
AreWithin f = All (IsWithin f.register_count (length f.blocks.items)) f.blocks.items

-- the words of a block's points: before each line, and before the exit; of 32 registers, by those that live at the starts of
-- blocks
pub record ArePoints (base : ℕ) (starts : List ℕ) (lines : List Line) (exit : Exit) (words : List ℕ) : Type 0 where
  pub count : length words ≡ length lines + 1
  pub each : (i j : ℕ) → i ≤ length lines → j < 32 → has (slice_index words i) j ≡ lives (starts_have starts j) (drop i lines) exit (base + j)

-- there are just enough groups for so many registers, and each has a word for each block
pub record HaveWords (registers blocks : ℕ) (groups : List (Vec ℕ Global)) : Type 0 where
  pub enough : registers ≤ 32 * length groups
  pub few : 32 * length groups < registers + 32
  pub each : (i : ℕ) (words : Vec ℕ Global) → slice_get groups i ≡ Some words → length words.items ≡ blocks
