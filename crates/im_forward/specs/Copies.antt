-- Registers that have the same value at a line of a block, by copies before it.
use Rattle.std.specs.Prelude.{◌≡◌, ◌≢◌, ℕ, false, List, ◌∷◌}
use Rattle.im_block.specs.declared.code.Line.{Line}
use Rattle.im_block.specs.declared.code.Line.TheVariants.{Copy}
use Rattle.im_alloc_relation.specs.Live.{sets}

-- a register is a copy of another behind these lines of its block, the last first: it was copied, or what was a copy of that
-- was, and neither was set since
pub data IsCopy : List Line → ℕ → ℕ → Type 0 where
  Copied : (before : List Line) (to from : ℕ) → to ≢ from → IsCopy (Copy to from ∷ before) to from
  Further : (before : List Line) (to from source : ℕ) → to ≢ from → to ≢ source → IsCopy before from source → IsCopy (Copy to from ∷ before) to source
  Since : (line : Line) (before : List Line) (to from : ℕ) → sets line to ≡ false → sets line from ≡ false → IsCopy before to from → IsCopy (line ∷ before) to from

-- itself, what it is a copy of, what that is a copy of, and so on
pub data IsSame : List Line → ℕ → ℕ → Type 0 where
  Itself : (before : List Line) (v : ℕ) → IsSame before v v
  CopyOf : (before : List Line) (u v w : ℕ) → IsCopy before u v → IsSame before v w → IsSame before u w
