-- Sets of 32 objects of activations as words: bit j for the object of number base + j.
use Rattle.std.specs.Prelude.{◌≡◌, ℕ, ◌+◌, ◌<◌, ◌^◌, ◌==◌, Bool, true, false, not, ◌&&◌, ◌||◌, List, Some, All, length, slice_get, slice_index, slice_set, bit_or}
use Rattle.std.specs.Int.{bit_at}
use Rattle.im_block.specs.declared.code.Place.{Place}
use Rattle.im_block.specs.declared.code.Place.TheVariants.{Static, Local, Through}
use Rattle.im_block.specs.declared.code.Line.{Line}
use Rattle.im_block.specs.declared.code.Line.TheVariants.{Address, Read, Write}
use Rattle.im_block.specs.declared.code.Block.{Block}
use Rattle.im_block.specs.Wellformed.{ExitThere}
use Rattle.im_promote.specs.Written.{names, object_lives}

abbrev pub has : ℕ → ℕ → Bool
has word j = bit_at word j == 1

-- words of blocks: whether object j lives at the start of block b
abbrev pub starts_have : List ℕ → ℕ → ℕ → Bool
starts_have starts j b = has (slice_index starts b) j

abbrev pub AreClosed : ℕ → List Block → List ℕ → Type 0
AreClosed base blocks starts = (b j : ℕ) (block : Block) → slice_get blocks b ≡ Some block → j < 32 → object_lives (starts_have starts j) block.lines.items block.exit (base + j) ≡ true → starts_have starts j b ≡ true

abbrev pub AreWords : List ℕ → Type 0
AreWords starts = All (λ word. word < 2 ^ 32) starts

-- what one block adds to the words: what lives before its lines comes to its own
pub record Joins (base : ℕ) (block : Block) (number : ℕ) (old new : List ℕ) (was_news is_news : Bool) : Type 0 where
  pub word : ℕ
  pub small : word < 2 ^ 32
  pub lives : (j : ℕ) → j < 32 → has word j ≡ object_lives (starts_have old j) block.lines.items block.exit (base + j)
  pub new_is : new ≡ slice_set old number (bit_or (slice_index old number) word)
  pub news : is_news ≡ (was_news || not (bit_or (slice_index old number) word == slice_index old number))

-- edges lead to blocks
abbrev pub AreLinked : List Block → Type 0
AreLinked blocks = All (λ (b : Block). ExitThere (length blocks) b.exit) blocks

-- an access that isn't of the object's first byte
abbrev pub inside : Place → ℕ → Bool
inside (Static object offset) n = false
inside (Local object offset) n = n == object && not (offset == 0)
inside (Through pointer offset) n = false

-- a line that keeps an object from being a register
abbrev pub breaks : Line → ℕ → Bool
breaks (Address to place) n = names place n
breaks (Read to place kind access) n = inside place n
breaks (Write place kind from access) n = inside place n
breaks line n = false
