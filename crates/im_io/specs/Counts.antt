-- Counts of what went wrong outside. A count is a number of 64 bits.
use Rattle.std.specs.Prelude.{◌≡◌, ℕ, ◌+◌, ◌-◌, ◌^◌, ◌<◌, ◌≤◌, ◌⊎◌, min, List, Contains}

-- the count rose, or stands at its end; it didn't fall
pub record Rose (old new : ℕ) : Type 0 where
  pub kept : old ≤ new
  pub counted : new ≤ 2 ^ 64 - 1
  pub risen : (old < new) ⊎ (new ≡ 2 ^ 64 - 1)

-- one more, as far as 64 bits go
abbrev pub one_more : ℕ → ℕ
one_more count = min (count + 1) (2 ^ 64 - 1)

-- after so many calls, the next one's number is among those that are to fail
abbrev pub NextFails : List ℕ → ℕ → Type 0
NextFails failing made = Contains failing (one_more made)
