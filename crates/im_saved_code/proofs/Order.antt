-- Blocks as they are laid are blocks of the function.
use Rattle.std.proofs.Common.{◌≡◌, ℕ, zero, suc, ◌<◌, ◌≤◌, inl, inr, Bool, true, false, List, [], ◌∷◌, None, length, arith}
use Rattle.std.specs.Prelude.{◌==◌, if◌then◌else◌, slice_get}
use Rattle.std.proofs.lemmas.Option.{slice_get_cases}
use Rattle.im_select.specs.Leads.{kept}
use Rattle.im_select.specs.Emitted.{others_below, laid_order}

pub some_there : {X : Type 0} (xs : List X) (i : ℕ) → i < length xs → slice_get xs i ≡ None → ⊥
some_there xs i h e = elim (slice_get_cases xs i).1 [ inl c ↦ (let s = c.2 in cc) | inr c ↦ (let le = c.0 in absurd (omega arith)) ]

-- each of these numbers is below
abbrev pub AreBelow : ℕ → List ℕ → Type 0
AreBelow count [] = Unit {0}
AreBelow count (b ∷ order) = (b < count) × AreBelow count order

others_are_below : (count entry n : ℕ) → n ≤ count → AreBelow count (others_below entry n)
others_are_below count entry zero h = tt
others_are_below count entry (suc n) h = by (n == entry) (others_are_below count entry n (omega arith))
  where
    by : (t : Bool) → AreBelow count (others_below entry n) → AreBelow count (if t then others_below entry n else n ∷ others_below entry n)
    by true rest = rest
    by false rest = (omega arith, rest)

pub order_below : (entry count : ℕ) → entry < count → AreBelow count (laid_order entry count)
order_below entry count there = (there, others_are_below count entry count (omega arith))

-- so are those that are kept
pub kept_below : (leads : ℕ → ℕ) (count : ℕ) (order : List ℕ) → AreBelow count order → AreBelow count (kept leads order)
kept_below leads count [] h = tt
kept_below leads count (b ∷ order) h = by (leads b == b) (kept_below leads count order h.1)
  where
    by : (t : Bool) → AreBelow count (kept leads order) → AreBelow count (if t then b ∷ kept leads order else kept leads order)
    by true rest = (h.0, rest)
    by false rest = rest
