-- Marks, one after the other.
use Rattle.std.proofs.Common.{◌≡◌, ◌⊎◌, inl, inr, ℕ, zero, suc, ◌+◌, ◌<◌, ◌==◌, Bool, true, false, List, [], ◌∷◌, ◌++◌, length, take, get_or, refl, ap, sym, ◌∙◌, subst, add-one, arith}
use Rattle.std.specs.Prelude.{if◌then◌else◌, Some, None, slice_get, slice_set}
use Rattle.std.proofs.lemmas.Bool.{eqb-true}
use Rattle.std.proofs.lemmas.Bool.Decides.{nat_tests}
use Rattle.im_typed.specs.Meaning.{is_among}
use Rattle.im_lower.specs.Marks.{AreMarks}

-- none is marked
pub record AreUnmarked (marks : List Bool) : Type 0 where
  pub each : (k : ℕ) (mark : Bool) → slice_get marks k ≡ Some mark → mark ≡ false

pub one_unmarked : (marks : List Bool) → AreUnmarked marks → AreUnmarked (marks ++ false ∷ [])
one_unmarked marks h = record { each = λ k mark e. go marks k mark (λ j m f. h.each j m f) e }
  where
    go : (ms : List Bool) (k : ℕ) (mark : Bool) → ((j : ℕ) (m : Bool) → slice_get ms j ≡ Some m → m ≡ false) → slice_get (ms ++ false ∷ []) k ≡ Some mark → mark ≡ false
    go [] zero mark h e = cc
    go [] (suc k) mark h e = absurd (cc)
    go (m ∷ ms) zero mark h e = h zero mark e
    go (m ∷ ms) (suc k) mark h e = go ms k mark (λ j m f. h (suc j) m f) e

pub none_given : (marks : List Bool) → AreUnmarked marks → AreMarks [] marks
none_given marks h = record { each = λ k mark e. h.each k mark e }

-- is_among with one more at the end
among_more : (k : ℕ) (given : List ℕ) (at : ℕ) → is_among k (given ++ at ∷ []) ≡ (if k == at then true else is_among k given)
among_more k [] at = refl
among_more k (g ∷ given) at = either (k == g) (k == at) (is_among k given) (is_among k (given ++ at ∷ [])) (among_more k given at)
  where
    either : (b c : Bool) (x y : Bool) → y ≡ (if c then true else x) → (if b then true else y) ≡ (if c then true else (if b then true else x))
    either true true x y e = refl
    either true false x y e = refl
    either false true x y e = e
    either false false x y e = e

set_at : (marks : List Bool) (at k : ℕ) (mark : Bool) → slice_get (slice_set marks at true) k ≡ Some mark → ((k ≡ at) × (mark ≡ true)) ⊎ (((k ≡ at) → ⊥) × (slice_get marks k ≡ Some mark))
set_at [] at k mark e = absurd (cc)
set_at (m ∷ ms) zero zero mark e = inl (refl, cc)
set_at (m ∷ ms) zero (suc k) mark e = inr ((λ s. absurd (omega arith)), e)
set_at (m ∷ ms) (suc at) zero mark e = inr ((λ s. absurd (omega arith)), e)
set_at (m ∷ ms) (suc at) (suc k) mark e = next (set_at ms at k mark e)
  where
    next : ((k ≡ at) × (mark ≡ true)) ⊎ (((k ≡ at) → ⊥) × (slice_get ms k ≡ Some mark)) → ((suc k ≡ suc at) × (mark ≡ true)) ⊎ (((suc k ≡ suc at) → ⊥) × (slice_get ms k ≡ Some mark))
    next (inl h) = inl (ap suc h.0, h.1)
    next (inr h) = inr ((λ s. h.0 (let f : k ≡ at = omega arith in f)), h.1)

same_test : (k at : ℕ) → k ≡ at → (k == at) ≡ true
same_test k at e = grind (arith, nat_tests)

other_test : (k at : ℕ) → (k ≡ at → ⊥) → (k == at) ≡ false
other_test k at ne = grind (arith, nat_tests)

pub one_marked : (given : List ℕ) (at : ℕ) (marks : List Bool) → AreMarks given marks → AreMarks (given ++ at ∷ []) (slice_set marks at true)
one_marked given at marks h = record { each = λ k mark e. either k mark (set_at marks at k mark e) }
  where
    either : (k : ℕ) (mark : Bool) → ((k ≡ at) × (mark ≡ true)) ⊎ (((k ≡ at) → ⊥) × (slice_get marks k ≡ Some mark)) → mark ≡ is_among k (given ++ at ∷ [])
    either k mark (inl both) = both.1 ∙ sym (among_more k given at ∙ ap (λ (b : Bool). if b then true else is_among k given) (same_test k at both.0))
    either k mark (inr both) = h.each k mark both.1 ∙ sym (among_more k given at ∙ ap (λ (b : Bool). if b then true else is_among k given) (other_test k at both.0))

take_one_suc : (xs : List ℕ) (i d : ℕ) → i < length xs → take (suc i) xs ≡ take i xs ++ get_or xs i d ∷ []
take_one_suc [] i d lt = absurd (omega arith)
take_one_suc (x ∷ xs) zero d lt = refl
take_one_suc (x ∷ xs) (suc i) d lt = ap (λ ys. x ∷ ys) (take_one_suc xs i d (let less : i < length xs = omega arith in less))

pub take_one : (xs : List ℕ) (i d : ℕ) → i < length xs → take (i + 1) xs ≡ take i xs ++ get_or xs i d ∷ []
take_one xs i d lt = ap (λ n. take n xs) (add-one i) ∙ take_one_suc xs i d lt
