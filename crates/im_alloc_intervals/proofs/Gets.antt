-- Elements of lists that grow or change, and homes that are the same or not.
use Rattle.std.proofs.Common.{◌≡◌, ◌≢◌, ◌⊎◌, ◌<◌, ℕ, zero, suc, List, [], ◌∷◌, ◌++◌, Some, inl, inr, ⊎_elim, length, set, refl, ap, arith}
use Rattle.std.specs.Prelude.{slice_get}
use Rattle.std.proofs.lemmas.Bool.{cases_eq}
use Rattle.std.proofs.lemmas.Option.{same_Some}
use Rattle.im_alloc_relation.specs.Homes.{Home, InRegister, InSlot}

pub set_same : {X : Type 0} (xs : List X) (i : ℕ) (x : X) → i < length xs → slice_get (set xs i x) i ≡ Some x
set_same [] i x lt = absurd (omega arith)
set_same (y ∷ ys) zero x lt = refl
set_same (y ∷ ys) (suc i) x lt = set_same ys i x (omega arith)

pub set_other : {X : Type 0} (xs : List X) (i j : ℕ) (x : X) → j ≢ i → slice_get (set xs i x) j ≡ slice_get xs j
set_other [] i j x ne = refl
set_other (y ∷ ys) zero zero x ne = absurd (ne refl)
set_other (y ∷ ys) zero (suc j) x ne = refl
set_other (y ∷ ys) (suc i) zero x ne = refl
set_other (y ∷ ys) (suc i) (suc j) x ne = set_other ys i j x (λ e. ne (ap (λ (z : ℕ). suc z) e))

pub push_cases : {X : Type 0} (xs : List X) (x : X) (k : ℕ) (y : X) → slice_get (xs ++ x ∷ []) k ≡ Some y → (slice_get xs k ≡ Some y) ⊎ ((k ≡ length xs) × (x ≡ y))
push_cases [] x zero y e = inr (refl, same_Some x y e)
push_cases [] x (suc k) y e = absurd cc
push_cases (z ∷ zs) x zero y e = inl e
push_cases (z ∷ zs) x (suc k) y e = ⊎_elim (λ (h : slice_get zs k ≡ Some y). inl h) (λ (h : (k ≡ length zs) × (x ≡ y)). inr (ap (λ (q : ℕ). suc q) h.0, h.1)) (push_cases zs x k y e)

pub push_old : {X : Type 0} (xs : List X) (x : X) (k : ℕ) (y : X) → slice_get xs k ≡ Some y → slice_get (xs ++ x ∷ []) k ≡ Some y
push_old [] x k y e = absurd cc
push_old (z ∷ zs) x zero y e = e
push_old (z ∷ zs) x (suc k) y e = push_old zs x k y e

pub push_new : {X : Type 0} (xs : List X) (x : X) → slice_get (xs ++ x ∷ []) (length xs) ≡ Some x
push_new [] x = refl
push_new (z ∷ zs) x = push_new zs x

pub cases_home : (g h : Home) → (g ≡ h) ⊎ (g ≢ h)
cases_home (InRegister r) (InRegister q) = ⊎_elim (λ (e : r ≡ q). inl (ap (λ (z : ℕ). InRegister z) e)) (λ (ne : r ≢ q). inr (λ (e : InRegister r ≡ InRegister q). ne (cc))) (cases_eq r q)
cases_home (InSlot r) (InSlot q) = ⊎_elim (λ (e : r ≡ q). inl (ap (λ (z : ℕ). InSlot z) e)) (λ (ne : r ≢ q). inr (λ (e : InSlot r ≡ InSlot q). ne (cc))) (cases_eq r q)
cases_home (InRegister r) (InSlot q) = inr (λ (e : InRegister r ≡ InSlot q). absurd cc)
cases_home (InSlot r) (InRegister q) = inr (λ (e : InSlot r ≡ InRegister q). absurd cc)

pub same_register : (q r : ℕ) → InRegister q ≡ InRegister r → q ≡ r
same_register q r e = cc

pub not_slot : (n r : ℕ) → InRegister r ≡ InSlot n → ⊥
not_slot n r e = cc
