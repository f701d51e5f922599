-- Searches from the front.
use Rattle.std.proofs.Common.{◌≡◌, ℕ, zero, suc, ◌-◌, ◌<◌, ◌≤◌, ◌==◌, List, [], ◌∷◌, true, false, get_or, drop, length, refl, sym, ap, ◌∙◌, subst, arith}
use Rattle.std.specs.Prelude.{Some, None, nat_le, slice_get, slice_index}
use Rattle.std.proofs.lemmas.Bool.{eq-eqb, eqb-true, lt-leb}
use Rattle.std.proofs.lemmas.Option.{slice_get_past, slice_get_within, slice_get_read}
use Rattle.im_store.specs.Objects.{Named}
use Rattle.im_eval_store.specs.declared.value.ObjectName.{ObjectName}
use Rattle.im_eval_store.specs.declared.memory.Activation.{Activation}
use Rattle.im_eval_store.specs.declared.memory.Position.{Position}
use Rattle.im_eval_store.specs.Living.{activation_at, live_in, live_named}
use Rattle.im_eval_store.specs.Changes.{IsWithin, stands_in}
use Rattle.im_eval_store.specs.Shown.{object_of}
use Rattle.im_eval_store.proofs.Finding.{by-test, if-true, if-false}

pub passed : (xs : List Activation) (at number : ℕ) (x : Activation) → at < length xs → x ≡ get_or xs at x → (x.number == number) ≡ false → activation_at (drop (suc at) xs) number ≡ activation_at (drop at xs) number
passed [] at number x lt e d = absurd (omega arith)
passed (y ∷ ys) zero number x lt e d =
    sym (if-false (y.number == number) (Some y) (activation_at ys number) (ap (λ (z : Activation). z.number == number) (sym e) ∙ d))
passed (y ∷ ys) (suc at) number x lt e d = passed ys at number x (omega arith) e d

pub stopped : (xs : List Activation) (at number : ℕ) (x : Activation) → at < length xs → x ≡ get_or xs at x → (x.number == number) ≡ true → activation_at (drop at xs) number ≡ slice_get xs at
stopped [] at number x lt e d = absurd (omega arith)
stopped (y ∷ ys) zero number x lt e d =
    if-true (y.number == number) (Some y) (activation_at ys number) (ap (λ (z : Activation). z.number == number) (sym e) ∙ d)
stopped (y ∷ ys) (suc at) number x lt e d = stopped ys at number x (omega arith) e d

pub none-left : (xs : List Activation) (at number : ℕ) → length xs ≡ at → activation_at (drop at xs) number ≡ None
none-left [] zero number e = refl
none-left [] (suc at) number e = refl
none-left (y ∷ ys) zero number e = absurd (omega arith)
none-left (y ∷ ys) (suc at) number e = none-left ys at number (omega arith)

pub stands-found : (n : ℕ) (xs : List ℕ) (k : ℕ) → k < length xs → slice_index xs k ≡ n → stands_in n xs ≡ true
stands-found n [] k lt e = absurd (omega arith)
stands-found n (x ∷ xs) zero lt e = if-true (n == x) true (stands_in n xs) (eq-eqb n x (sym e))
stands-found n (x ∷ xs) (suc k) lt e =
    by-test (n == x)
    (λ t. if-true (n == x) true (stands_in n xs) t)
    (λ t. if-false (n == x) true (stands_in n xs) t ∙ stands-found n xs k (omega arith) e)

pub within-some : {A : Type 0} (xs : List A) (i : ℕ) → i < length xs → (x : A) × (slice_get xs i ≡ Some x)
within-some [] i lt = absurd (omega arith)
within-some (x ∷ xs) zero lt = (x, refl)
within-some (x ∷ xs) (suc i) lt = within-some xs i (omega arith)

-- objects that an activation doesn't have

pub wrong-depth : (a : Activation) (p : ObjectName) → (a.depth ≡ p.depth → ⊥) → live_in (Some a) (object_of p) ≡ None
wrong-depth a p d =
    by-test (a.depth == p.depth)
    (λ t. absurd (d (eqb-true a.depth p.depth t)))
    (λ t. if-false (a.depth == p.depth) (live_named a.first a.objects.items (Named p.number)) None t)

at-depth : (a : Activation) (p : ObjectName) → live_named a.first a.objects.items (Named p.number) ≡ None → live_in (Some a) (object_of p) ≡ None
at-depth a p e =
    by-test (a.depth == p.depth)
    (λ t. if-true (a.depth == p.depth) (live_named a.first a.objects.items (Named p.number)) None t ∙ e)
    (λ t. if-false (a.depth == p.depth) (live_named a.first a.objects.items (Named p.number)) None t)

pub before-first : (a : Activation) (p : ObjectName) → p.number < a.first → live_in (Some a) (object_of p) ≡ None
before-first a p lt =
    at-depth a p (if-false (nat_le a.first p.number) (slice_get a.objects.items (p.number - a.first)) None (lt-leb a.first p.number lt))

pub past-last : (a : Activation) (p : ObjectName) → length a.objects.items ≤ p.number - a.first → live_in (Some a) (object_of p) ≡ None
past-last a p le =
    at-depth a p
    (by-test (nat_le a.first p.number)
    (λ t. if-true (nat_le a.first p.number) (slice_get a.objects.items (p.number - a.first)) None t ∙ slice_get_past a.objects.items (p.number - a.first) le)
    (λ t. if-false (nat_le a.first p.number) (slice_get a.objects.items (p.number - a.first)) None t))

-- the places of what is held are within the lists

pub level-within : (all : List Activation) (at : Position) → IsWithin all at → at.level < length all
level-within all at w = slice_get_within all at.level w.0 w.1

pub index-within : (all : List Activation) (at : Position) (x : Activation) → IsWithin all at → x ≡ get_or all at.level x → at.index < length x.objects.items
index-within all at x w e =
    let got = slice_get_read all (length all) at.level x refl (level-within all at w) e in
    let both : Some w.0 ≡ Some x = sym w.1 ∙ got in
    let same : w.0 ≡ x = cc in
    subst (λ (z : Activation). at.index < length z.objects.items) same w.2
