-- For each byte of an object, whether it is among those that are given. Private contracts alone speak of this.
use Rattle.std.specs.Prelude.{◌≡◌, ℕ, ◌<◌, Bool, List, Some, slice_get, length}
use Rattle.im_typed.specs.Meaning.{is_among}

pub record AreMarks (given : List ℕ) (marks : List Bool) : Type 0 where
  pub each : (k : ℕ) (mark : Bool) → slice_get marks k ≡ Some mark → mark ≡ is_among k given
