-- The machine's registers that are homes of what lives at the start of a block.
use Rattle.std.proofs.Common.{◌≡◌, ℕ, zero, suc, ◌<◌, ◌≤◌, ⊎_elim, Bool, true, false, refl, sym, ap, ◌∙◌, arith, eq-eqb}
use Rattle.std.specs.Prelude.{◌==◌, ◌&&◌, ◌||◌}
use Rattle.std.proofs.lemmas.Bool.Decides.{nat_tests}
use Rattle.std.proofs.lemmas.Bool.{cases_lt}
use Rattle.im_alloc_relation.specs.Homes.{Home, InRegister, InSlot}

both_are : (a b : Bool) → a ≡ true → b ≡ true → (a && b) ≡ true
both_are a b e f = ap (λ z. z && b) e ∙ f

both_true : (a b : Bool) → (a && b) ≡ true → (a ≡ true) × (b ≡ true)
both_true true b h = (refl, h)
both_true false b h = absurd cc

or_left : (a b : Bool) → a ≡ true → (a || b) ≡ true
or_left a b e = ap (λ z. z || b) e

or_right : (a b : Bool) → b ≡ true → (a || b) ≡ true
or_right true b e = refl
or_right false b e = e

same_of : (a b : ℕ) → (a == b) ≡ true → a ≡ b
same_of a b h = grind (arith, nat_tests)

-- a test holds of some number below n

abbrev some_below : ℕ → (ℕ → Bool) → Bool
some_below zero p = false
some_below (suc n) p = p n || some_below n p

found : (n : ℕ) (p : ℕ → Bool) (v : ℕ) → v < n → p v ≡ true → some_below n p ≡ true
found zero p v lt t = absurd (omega arith)
found (suc n) p v lt t =
    ⊎_elim
    (λ (a : v < n). or_right (p n) (some_below n p) (found n p v a t))
    (λ (a : n ≤ v). let is : n ≡ v = omega arith in or_left (p n) (some_below n p) (ap p is ∙ t))
    (cases_lt v n)

record Found (n : ℕ) (p : ℕ → Bool) : Type 0 where
  at : ℕ
  holds : p at ≡ true

finds_by : (n : ℕ) (p : ℕ → Bool) → (t : Bool) → p n ≡ t → (some_below n p ≡ true → Found n p) → (p n || some_below n p) ≡ true → Found (suc n) p
finds_by n p true e rest h = record { at = n; holds = e }
finds_by n p false e rest h =
    let k = rest (ap (λ z. z || some_below n p) (sym e) ∙ h) in
    record { at = k.at; holds = k.holds }

finds : (n : ℕ) (p : ℕ → Bool) → some_below n p ≡ true → Found n p
finds zero p h = absurd cc
finds (suc n) p h = finds_by n p (p n) refl (finds n p) h

-- a home is this register

abbrev is_in : Home → ℕ → Bool
is_in (InRegister q) r = q == r
is_in (InSlot slot) r = false

in_is : (home : Home) (r : ℕ) → is_in home r ≡ true → home ≡ InRegister r
in_is (InRegister q) r e = ap InRegister (same_of q r e)
in_is (InSlot slot) r e = absurd cc

abbrev pub wanted : ℕ → (ℕ → Home) → (ℕ → ℕ → Bool) → ℕ → ℕ → Bool
wanted count h live b r = some_below count (λ v. live b v && is_in (h v) r)

module _ (count : ℕ) (h : ℕ → Home) (live : ℕ → ℕ → Bool) where
  pub held : ((b v : ℕ) → live b v ≡ true → v < count) → (b v r : ℕ) → live b v ≡ true → h v ≡ InRegister r → wanted count h live b r ≡ true
  held within b v r t e =
      found count (λ w. live b w && is_in (h w) r) v (within b v t) (both_are (live b v) (is_in (h v) r) t (ap (λ z. is_in z r) e ∙ eq-eqb r r refl))

  pub holds : (b r : ℕ) → wanted count h live b r ≡ true → (v : ℕ) × (live b v ≡ true) × (h v ≡ InRegister r)
  holds b r w =
      let k = finds count (λ v. live b v && is_in (h v) r) w in
      let both = both_true (live b k.at) (is_in (h k.at) r) k.holds in
      (k.at, both.0, in_is (h k.at) r both.1)
