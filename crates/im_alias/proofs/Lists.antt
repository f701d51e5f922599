-- Elements of lists by place, and as members.
use Rattle.std.proofs.Common.{◌≡◌, ◌≢◌, ℕ, zero, suc, ◌<◌, List, [], ◌∷◌, ◌++◌, length, get_or, Some, refl, sym, ap, ◌∙◌, inl, inr, ⊎_elim, ◌⊎◌, arith}
use Rattle.std.specs.Prelude.{slice_get, slice_set}
use Rattle.std.specs.List.{insert}
use Rattle.std.proofs.lemmas.Option.{slice_get_read}
use Rattle.im_block.specs.Sections.{Has}

pub at_same : {X : Type 0} (xs : List X) (i : ℕ) (v : X) → i < length xs → slice_get (slice_set xs i v) i ≡ Some v
at_same [] i v h = absurd (omega arith)
at_same (x ∷ xs) zero v h = refl
at_same (x ∷ xs) (suc i) v h = at_same xs i v (omega arith)

pub at_other : {X : Type 0} (xs : List X) (i j : ℕ) (v : X) → j ≢ i → slice_get (slice_set xs i v) j ≡ slice_get xs j
at_other [] i j v h = refl
at_other (x ∷ xs) zero zero v h = absurd (h refl)
at_other (x ∷ xs) zero (suc j) v h = refl
at_other (x ∷ xs) (suc i) zero v h = refl
at_other (x ∷ xs) (suc i) (suc j) v h = at_other xs i j v (λ e. h (ap suc e))

pub has_at : (xs : List ℕ) (k d : ℕ) → k < length xs → Has xs (get_or xs k d)
has_at [] k d h = absurd (omega arith)
has_at (x ∷ xs) zero d h = inl refl
has_at (x ∷ xs) (suc k) d h = inr (has_at xs k d (omega arith))

pub at_has : (xs : List ℕ) (x : ℕ) → Has xs x → (k : ℕ) × (k < length xs) × (get_or xs k 0 ≡ x)
at_has [] x h = absurd h
at_has (y ∷ xs) x h =
    ⊎_elim (λ e. (0, omega arith, e)) (λ t. let r = at_has xs x t in (suc r.0, omega (arith, r.1), r.2)) h

pub has_append : (xs ys : List ℕ) (n : ℕ) → Has (xs ++ ys) n → Has xs n ⊎ Has ys n
has_append [] ys n h = inr h
has_append (x ∷ xs) ys n h = ⊎_elim (λ e. inl (inl e)) (λ t. ⊎_elim (λ a. inl (inr a)) (λ b. inr b) (has_append xs ys n t)) h

pub has_front : (xs ys : List ℕ) (n : ℕ) → Has xs n → Has (xs ++ ys) n
has_front [] ys n h = absurd h
has_front (x ∷ xs) ys n h = ⊎_elim (λ e. inl e) (λ t. inr (has_front xs ys n t)) h

pub has_back : (xs ys : List ℕ) (n : ℕ) → Has ys n → Has (xs ++ ys) n
has_back [] ys n h = h
has_back (x ∷ xs) ys n h = inr (has_back xs ys n h)

-- an insertion
pub has_insert : (xs : List ℕ) (i y n : ℕ) → Has (insert xs i y) n → Has xs n ⊎ (y ≡ n)
has_insert xs zero y n h = ⊎_elim (λ e. inr e) (λ t. inl t) h
has_insert [] (suc i) y n h = ⊎_elim (λ e. inr e) (λ t. inl t) h
has_insert (x ∷ xs) (suc i) y n h =
    ⊎_elim (λ e. inl (inl e)) (λ t. ⊎_elim (λ a. inl (inr a)) (λ b. inr b) (has_insert xs i y n t)) h

pub insert_has : (xs : List ℕ) (i y n : ℕ) → Has xs n → Has (insert xs i y) n
insert_has xs zero y n h = inr h
insert_has [] (suc i) y n h = absurd h
insert_has (x ∷ xs) (suc i) y n h = ⊎_elim (λ e. inl e) (λ t. inr (insert_has xs i y n t)) h

pub insert_new : (xs : List ℕ) (i y : ℕ) → Has (insert xs i y) y
insert_new xs zero y = inl refl
insert_new [] (suc i) y = inl refl
insert_new (x ∷ xs) (suc i) y = inr (insert_new xs i y)

-- an element of a list that another one is
pub got : {X : Type 0} (all some : List X) (k : ℕ) (x : X) → some ≡ all → k < length some → x ≡ get_or some k x → slice_get all k ≡ Some x
got all some k x e within is = ap (λ xs. slice_get xs k) (sym e) ∙ slice_get_read some (length some) k x refl within is
