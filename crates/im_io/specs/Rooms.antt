-- Room for bytes, and what of a piece fits.
use Rattle.std.specs.Prelude.{◌≡◌, ℕ, ◌-◌, ◌<◌, List, length}

-- what is left of a room that holds these bytes
abbrev pub room_left : ℕ → List ℕ → ℕ
room_left room held = room - length held

-- nothing fits of a piece that has a byte
pub record NothingFits (piece : List ℕ) (left : ℕ) : Type 0 where
  pub some : 0 < length piece
  pub full : left ≡ 0
