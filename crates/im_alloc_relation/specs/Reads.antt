-- Which virtual registers a path through block code uses before it sets them.
use Rattle.std.specs.Prelude.{◌≡◌, ◌<◌, ℕ, zero, suc, Bool, true, false, List, Option, Some, None, slice_get}
use Rattle.im_block.specs.declared.code.Block.{Block}
use Rattle.im_block.specs.declared.unit.Function.{Function}
use Rattle.im_alloc_relation.specs.Live.{lives}

abbrev pub lives_in : (ℕ → ℕ → Bool) → Option Block → ℕ → Bool
lives_in live None v = false
lives_in live (Some block) v = lives live block.lines.items block.exit v

-- a path of at most n blocks, begun with block b, uses register v before it sets it
abbrev pub reads_first : List Block → ℕ → ℕ → ℕ → Bool
reads_first blocks zero b v = false
reads_first blocks (suc n) b v = lives_in (reads_first blocks n) (slice_get blocks b) v

-- on each path from the entry, what is used before it was set is an argument
pub record WritesFirst (f : Function) : Type 0 where
  pub each : (n v : ℕ) → reads_first f.blocks.items n f.entry v ≡ true → v < f.parameters
