-- Digits in a radix, and the number that they spell.
use Rattle.std.specs.Prelude.{◌≡◌, ℕ, ◌+◌, ◌*◌, ◌≤◌, ◌<◌, ◌⊎◌, List, fold, slice_index}
use Rattle.std.specs.Char.{digit_value}

-- 0 to 9, and for ten and more a to f or A to F
abbrev pub IsDigitOf : ℕ → ℕ → Type 0
IsDigitOf radix byte = digit_value byte < radix

-- the number that digits spell, the highest first
abbrev pub digits_value : ℕ → List ℕ → ℕ
digits_value radix digits = fold (λ value digit. radix * value + digit_value digit) 0 digits

-- digits stand from start up to end and, unless that is the limit, no further
pub record DigitsEnd (radix : ℕ) (text : List ℕ) (start limit end : ℕ) : Type 0 where
  pub from : start ≤ end
  pub within : end ≤ limit
  pub digits : (i : ℕ) → start ≤ i → i < end → IsDigitOf radix (slice_index text i)
  pub all : (end ≡ limit) ⊎ (IsDigitOf radix (slice_index text end) → ⊥)
