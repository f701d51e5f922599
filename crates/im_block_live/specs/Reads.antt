-- Which virtual registers live at the points of block code: read, on some path, before they are set.
use Rattle.std.specs.Prelude.{◌≡◌, ℕ, Bool, true, List}
use Rattle.im_block.specs.declared.code.Block.{Block}
pub use Rattle.im_alloc_relation.specs.Reads.{lives_in, reads_first}

-- a register lives at the start of a block exactly where some path from there reads it before it sets it
pub record IsLive (blocks : List Block) (live : ℕ → ℕ → Bool) : Type 0 where
  pub some : (b v : ℕ) → live b v ≡ true → (n : ℕ) × (reads_first blocks n b v ≡ true)
  pub all : (b v n : ℕ) → reads_first blocks n b v ≡ true → live b v ≡ true
