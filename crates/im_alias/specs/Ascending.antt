-- Sets as ascending lists, and what is added to one.
use Rattle.std.specs.Prelude.{◌≡◌, ℕ, ◌<◌, ◌⊎◌, Bool, true, false, List, length, slice_index}
use Rattle.im_block.specs.Sections.{Has}
use Rattle.im_block_laws.specs.PointsTo.{Sub}

abbrev pub IsAscending : List ℕ → Type 0
IsAscending xs = (i j : ℕ) → i < j → j < length xs → slice_index xs i < slice_index xs j

abbrev pub IsWithin : ℕ → List ℕ → Type 0
IsWithin bound xs = (n : ℕ) → Has xs n → n < bound

-- a set has become what it was and others, and whether it was changed
pub record Adds (old from new : List ℕ) (changed : Bool) : Type 0 where
  pub kept : Sub old new
  pub held : Sub from new
  pub within : (n : ℕ) → Has new n → Has old n ⊎ Has from n
  pub same : changed ≡ false → new ≡ old
  pub more : changed ≡ true → length old < length new
