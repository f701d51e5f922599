-- The routines' touches are in order.
use Rattle.std.proofs.Common.{◌≡◌, ℕ, ◌+◌, ◌<◌, ◌≤◌, Bool, true, false, cond, List, [], ◌∷◌, ◌++◌, refl, ap, ◌∙◌, arith}
use Rattle.std.specs.Prelude.{◌==◌, ◌&&◌, ◌||◌, nat_le}
use Rattle.std.proofs.lemmas.Bool.Decides.{nat_tests}
use Rattle.im_rv_reach.specs.Touches.{Touch, Loaded, Stored, Flipped}
use Rattle.im_rv_reach.specs.Orderly.{Anything, Free, Low, Select, Wrong, may_load, is_free, is_low, loading, storing, after, is_closed}

or_true : (x : Bool) → (x || true) ≡ true
or_true true = refl
or_true false = refl

output_far : (a : ℕ) → 4194304 ≤ a → nat_le 4194304 a ≡ true
output_far a h = grind (arith, nat_tests)

output_free : (a : ℕ) → 4194304 ≤ a → is_free a 1 ≡ true
output_free a h = ap (λ z. ((nat_le 4 a && nat_le (a + 1) 12) || (nat_le 1048576 a && nat_le (a + 1) 3145728)) || z) (output_far a h) ∙ or_true ((nat_le 4 a && nat_le (a + 1) 12) || (nat_le 1048576 a && nat_le (a + 1) 3145728))

abbrev pub counted : Bool → List Touch
counted b = Loaded 36 1 ∷ Loaded (cond b 12 32) 4 ∷ Loaded 16 4 ∷ []

abbrev pub appended : Bool → ℕ → List Touch
appended b a = Stored a 1 ∷ Flipped ∷ Stored (cond b 32 12) 4 ∷ Flipped ∷ Stored 36 1 ∷ Flipped ∷ []

abbrev rest : Bool → List Touch
rest b = Flipped ∷ Stored (cond b 32 12) 4 ∷ Flipped ∷ Stored 36 1 ∷ Flipped ∷ []

pub counted_closed : (b : Bool) → is_closed (after Anything (counted b)) ≡ true
counted_closed true = refl
counted_closed false = refl

rest_closed : (b : Bool) → is_closed (after Anything (rest b)) ≡ true
rest_closed true = refl
rest_closed false = refl

counted_all : (b : Bool) (ts : List Touch) → after Anything (counted b ++ ts) ≡ after Anything ts
counted_all true ts = refl
counted_all false ts = refl

pub appended_closed : (b : Bool) (a : ℕ) → 4194304 ≤ a → is_closed (after Anything (counted b ++ appended b a)) ≡ true
appended_closed b a h =
    ap is_closed (counted_all b (appended b a))
    ∙ ap (λ z. is_closed (after (storing (cond z Free (cond (is_low a 1) Low (cond (a == 36 && 1 == 1) Select Wrong))) Anything) (rest b))) (output_free a h)
    ∙ rest_closed b

input_near : (a : ℕ) → 12 ≤ a → a + 1 ≤ 4194304 → may_load a 1 ≡ true
input_near a low high =
    let p : nat_le 12 a ≡ true = grind (arith, nat_tests) in
    let q : nat_le (a + 1) 4194304 ≡ true = grind (arith, nat_tests) in
    ap (λ z. (nat_le (a + 1) 4 || z) && nat_le (a + 1) 4194304) p ∙ ap (λ z. z && nat_le (a + 1) 4194304) (or_true (nat_le (a + 1) 4)) ∙ q

pub taken_closed : (pos : ℕ) → pos < 1048576 → is_closed (after Anything (Loaded 24 4 ∷ Loaded 20 4 ∷ Loaded (3145728 + pos) 1 ∷ Flipped ∷ Stored 24 4 ∷ [])) ≡ true
taken_closed pos h = ap (λ z. is_closed (after (loading z Anything) (Flipped ∷ Stored 24 4 ∷ []))) (input_near (3145728 + pos) (omega arith) (omega arith))
