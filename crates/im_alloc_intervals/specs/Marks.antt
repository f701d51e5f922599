-- Tables with an interval, or a flag, for each register, and what marks add to them.
use Rattle.std.specs.Prelude.{◌≡◌, ◌≢◌, ◌<◌, ◌≤◌, ◌⊎◌, ℕ, ◌+◌, min, max, Bool, true, false, List, Option, Some, None, length, slice_index, slice_index_or}
use Rattle.im_block_live.specs.Words.{has}
use Rattle.im_alloc_intervals.specs.declared.marks.Interval.{Interval}

-- the interval of a register, where it was marked at all
abbrev pub interval_at : List (Option Interval) → ℕ → Option Interval
interval_at table v = slice_index_or table v None

abbrev pub touched : Option Interval → ℕ → Interval
touched None p = record { first = p; last = p }
touched (Some i) p = record { first = min i.first p; last = max i.last p }

abbrev pub HoldsIn : Option Interval → ℕ → Type 0
HoldsIn None p = ⊥
HoldsIn (Some i) p = (i.first ≤ p) × (p ≤ i.last)

abbrev pub IsEndOf : Option Interval → ℕ → Type 0
IsEndOf None p = ⊥
IsEndOf (Some i) p = (p ≡ i.first) ⊎ (p ≡ i.last)

-- registers are marked at positions: then their intervals hold these, and end at marks alone
pub record Adds (marks : ℕ → ℕ → Type 0) (old new : List (Option Interval)) : Type 0 where
  pub count : length new ≡ length old
  pub holds : (v p : ℕ) → v < length old → marks v p → HoldsIn (interval_at new v) p
  pub keeps : (v p : ℕ) → HoldsIn (interval_at old v) p → HoldsIn (interval_at new v) p
  pub ends : (v p : ℕ) → IsEndOf (interval_at new v) p → marks v p ⊎ IsEndOf (interval_at old v) p

abbrev pub IsAt : ℕ → ℕ → ℕ → ℕ → Type 0
IsAt v p w q = (w ≡ v) × (q ≡ p)

-- registers of a word's first bits, from `base` on
pub record IsBit (bits base word v : ℕ) : Type 0 where
  pub j : ℕ
  pub small : j < bits
  pub is : v ≡ base + j
  pub bit : has word j ≡ true

abbrev pub IsBitAt : ℕ → ℕ → ℕ → ℕ → ℕ → Type 0
IsBitAt base word p v q = IsBit 32 base word v × (q ≡ p)

-- registers of words at positions side by side
pub record IsBitOf (base : ℕ) (words : List ℕ) (start v p : ℕ) : Type 0 where
  pub i : ℕ
  pub inside : i < length words
  pub is : p ≡ start + i
  pub bit : IsBit 32 base (slice_index words i) v

-- the same of flags

abbrev pub flag_at : List Bool → ℕ → Bool
flag_at flags v = slice_index_or flags v false

pub record Flags (marks : ℕ → Type 0) (old new : List Bool) : Type 0 where
  pub count : length new ≡ length old
  pub set : (v : ℕ) → v < length old → marks v → flag_at new v ≡ true
  pub keeps : (v : ℕ) → flag_at old v ≡ true → flag_at new v ≡ true
  pub due : (v : ℕ) → flag_at new v ≡ true → marks v ⊎ (flag_at old v ≡ true)

-- but for one register
abbrev pub IsOtherBit : ℕ → ℕ → Option ℕ → ℕ → Type 0
IsOtherBit base word but v = IsBit 32 base word v × (but ≢ Some v)

abbrev pub IsBetween : ℕ → ℕ → ℕ → Type 0
IsBetween first count v = (first ≤ v) × (v < first + count)
