-- The starts of intervals, listed and sorted.
use Rattle.std.proofs.Common.{◌≡◌, ◌≢◌, ◌<◌, ◌≤◌, ◌+◌, ℕ, zero, suc, Bool, true, false, List, [], ◌∷◌, ◌++◌, Option, Some, None, ⊎_elim, length, get_or, refl, sym, ap, ◌∙◌, subst, arith, eq-eqb}
use Rattle.std.specs.Prelude.{◌==◌, if◌then◌else◌, slice_get, All}
use Rattle.std.specs.List.{sum_by, Contains}
use Rattle.std.specs.List.Sorted.{IsPermutation, IsNonDecreasingBy}
use Rattle.std.proofs.lemmas.Bool.{cases_eq, cases_lt}
use Rattle.std.proofs.lemmas.List.{append-nil, length-append, get_or_past}
use Rattle.std.proofs.lemmas.List.Sums.{sum_by-cons, sum_by_push}
use Rattle.std.proofs.lemmas.List.Sorted.{All-permutation, Contains-permutation, sum_by-IsPermutation, length_permutation}
use Rattle.std.proofs.lemmas.Option.{slice_get_within, get_or_from_slice_get, slice_get-get_or, none-some, same_Some}
use Rattle.im_alloc_intervals.specs.declared.marks.Interval.{Interval}
use Rattle.im_alloc_intervals.specs.declared.starts.Start.{Start}
use Rattle.im_alloc_intervals.specs.Marks.{interval_at}
use Rattle.im_alloc_intervals.specs.Scans.{IsStart, IsListed, one_if, starts_of_one, AreBegun, AreStarts}
use Rattle.im_alloc_intervals.proofs.Adding.{Table}
use Rattle.im_alloc_intervals.proofs.Gets.{push_cases, push_old, push_new}
use Rattle.im_alloc_intervals.proofs.Lives.{same_of}

one_at : (v : ℕ) (s : Start) → s.register ≡ v → one_if v s ≡ 1
one_at v s e = ap (λ (b : Bool). if b then 1 else 0) (eq-eqb s.register v e)

none_at : (v : ℕ) (s : Start) → s.register ≢ v → one_if v s ≡ 0
none_at v s ne = by (s.register == v) refl
  where
    by : (b : Bool) → (s.register == v) ≡ b → one_if v s ≡ 0
    by true e = absurd (ne (same_of s.register v e))
    by false e = ap (λ (z : Bool). if z then 1 else 0) e

none_counted : (v : ℕ) (xs : List Start) → ((k : ℕ) (s : Start) → slice_get xs k ≡ Some s → s.register ≢ v) → sum_by (one_if v) xs ≡ 0
none_counted v [] none = refl
none_counted v (x ∷ xs) none =
    let a = sum_by-cons (one_if v) x xs in
    let b = none_at v x (none 0 x refl) in
    let c = none_counted v xs (λ k s e. none (suc k) s e) in
    omega arith

one_counted : (v : ℕ) (xs : List Start) (k : ℕ) (s : Start) → slice_get xs k ≡ Some s → s.register ≡ v → 1 ≤ sum_by (one_if v) xs
one_counted v [] k s e is = absurd cc
one_counted v (x ∷ xs) zero s e is =
    let a = sum_by-cons (one_if v) x xs in
    let b = one_at v x (ap (λ (z : Start). z.register) (same_Some x s e) ∙ is) in
    omega arith
one_counted v (x ∷ xs) (suc k) s e is =
    let a = sum_by-cons (one_if v) x xs in
    let b = one_counted v xs k s e is in
    omega arith

two_counted : (v : ℕ) (xs : List Start) (j k : ℕ) (s t : Start) → slice_get xs j ≡ Some s → slice_get xs k ≡ Some t → s.register ≡ v → t.register ≡ v → j < k → 2 ≤ sum_by (one_if v) xs
two_counted v [] j k s t a b c d lt = absurd cc
two_counted v (x ∷ xs) j zero s t a b c d lt = absurd (omega arith)
two_counted v (x ∷ xs) zero (suc k) s t a b c d lt =
    let e = sum_by-cons (one_if v) x xs in
    let f = one_at v x (ap (λ (z : Start). z.register) (same_Some x s a) ∙ c) in
    let g = one_counted v xs k t b d in
    omega arith
two_counted v (x ∷ xs) (suc j) (suc k) s t a b c d lt =
    let e = sum_by-cons (one_if v) x xs in
    let g = two_counted v xs j k s t a b c d (omega arith) in
    omega arith

once_of : (xs : List Start) → ((v : ℕ) → sum_by (one_if v) xs ≤ 1) → (j k : ℕ) (s t : Start) → slice_get xs j ≡ Some s → slice_get xs k ≡ Some t → s.register ≡ t.register → j ≡ k
once_of xs once j k s t a b same =
    ⊎_elim
    (λ (e : j ≡ k). e)
    (λ (ne : j ≢ k).
    ⊎_elim
    (λ (lt : j < k). (let two = two_counted t.register xs j k s t a b same refl lt in let one = once t.register in absurd (omega arith)))
    (λ (le : k ≤ j). (let two = two_counted t.register xs k j t s b a refl same (omega arith) in let one = once t.register in absurd (omega arith)))
    (cases_lt j k))
    (cases_eq j k)

-- one register after the other

pub begun_none : (from : ℕ) (table : Table) → AreBegun from from table []
begun_none from table = record {
  each = λ k s e. absurd cc;
  all = λ v i a b e. absurd (omega arith);
  once = λ v. omega arith;
  below = λ k s e. absurd cc;
  few = omega arith;
}

pub begun_skip : (from r : ℕ) (table : Table) (starts : List Start) → AreBegun from r table starts → interval_at table r ≡ None → AreBegun from (r + 1) table starts
begun_skip from r table starts x none = record {
  each = x.each;
  all = λ v i a b e.
      ⊎_elim
      (λ (is : v ≡ r). absurd (none-some i (sym none ∙ ap (λ (z : ℕ). interval_at table z) (sym is) ∙ e)))
      (λ (ne : v ≢ r). x.all v i a (omega arith) e)
      (cases_eq v r);
  once = x.once;
  below = λ k s e. (let lt = x.below k s e in omega arith);
  few = (let le = x.few in omega arith);
}

pub begun_push : (from r : ℕ) (table : Table) (starts : List Start) (i : Interval) (s : Start) → AreBegun from r table starts → from ≤ r → interval_at table r ≡ Some i → s ≡ record { first = i.first; register = r } → AreBegun from (r + 1) table (starts ++ s ∷ [])
begun_push from r table starts i s x low at is = record {
  each = λ k y e.
      ⊎_elim
      (λ (h : slice_get starts k ≡ Some y). x.each k y h)
      (λ (h : (k ≡ length starts) × (s ≡ y)). subst (λ (z : Start). IsStart from table z) (sym is ∙ h.1) new)
      (push_cases starts s k y e);
  all = λ v j a b e.
      ⊎_elim
      (λ (same : v ≡ r). record { k = length starts; start = s; at = push_new starts s; is = register_is ∙ sym same })
      (λ (ne : v ≢ r). (let l = x.all v j a (omega arith) e in record { k = l.k; start = l.start; at = push_old starts s l.k l.start l.at; is = l.is }))
      (cases_eq v r);
  once = λ v.
      (let sum = sum_by_push (one_if v) starts s in
      ⊎_elim
      (λ (same : v ≡ r).
      (let none = none_counted v starts (λ k y e z. (let lt = x.below k y e in omega arith)) in
      let one = one_at v s (register_is ∙ sym same) in omega arith))
      (λ (ne : v ≢ r). (let none = none_at v s (λ e. ne (sym e ∙ register_is)) in let old = x.once v in omega arith))
      (cases_eq v r));
  below = λ k y e.
      ⊎_elim
      (λ (h : slice_get starts k ≡ Some y). (let lt = x.below k y h in omega arith))
      (λ (h : (k ≡ length starts) × (s ≡ y)). (let q : y.register ≡ r = ap (λ (z : Start). z.register) (sym h.1) ∙ register_is in omega arith))
      (push_cases starts s k y e);
  few = (let le = x.few in let long = length-append starts (s ∷ []) in omega arith);
}
  where
    register_is : s.register ≡ r
    register_is = ap (λ (z : Start). z.register) is

    new : IsStart from table (record { first = i.first; register = r })
    new = record { low = low; interval = i; at = at; first = refl }

pub begun_step : (from r : ℕ) (table : Table) (starts new : List Start) (o : Option Interval) → AreBegun from r table starts → from ≤ r → interval_at table r ≡ o → new ≡ starts ++ starts_of_one r o → AreBegun from (r + 1) table new
begun_step from r table starts new None x low at is = subst (λ (z : List Start). AreBegun from (r + 1) table z) (sym (is ∙ append-nil starts)) (begun_skip from r table starts x at)
begun_step from r table starts new (Some i) x low at is = subst (λ (z : List Start). AreBegun from (r + 1) table z) (sym is) (begun_push from r table starts i (record { first = i.first; register = r }) x low at refl)

-- sorted

pub starts_of : (from n : ℕ) (table : Table) (xs ys : List Start) → n ≡ length table → AreBegun from n table xs → IsPermutation xs ys → IsNonDecreasingBy (λ (s : Start). s.first) ys → AreStarts from table ys
starts_of from n table xs ys whole x moved sorted = record {
  each = λ k s e. subst (λ (z : Start). IsStart from table z) (get_or_from_slice_get ys k s s e) (all_moved k s (slice_get_within ys k s e));
  all = λ v i a e. listed v (x.all v i a (within v i e) e);
  once = once_of ys (λ v. (let same = sum_by-IsPermutation (one_if v) xs ys moved in let le = x.once v in omega arith));
  sorted = λ j k s t a b le.
      (let f : (get_or ys j s).first ≡ s.first = ap (λ (z : Start). z.first) (get_or_from_slice_get ys j s s a) in
      let g : (get_or ys k s).first ≡ t.first = ap (λ (z : Start). z.first) (get_or_from_slice_get ys k t s b) in
      let up = sorted j k s le (slice_get_within ys k t b) in omega arith);
  few = (let same = length_permutation xs ys moved in let le = x.few in omega arith);
}
  where
    all_old : All (IsStart from table) xs
    all_old k d lt = x.each k (get_or xs k d) (slice_get-get_or xs k d lt)

    all_moved : All (IsStart from table) ys
    all_moved = All-permutation (IsStart from table) xs ys moved all_old

    within : (v : ℕ) (i : Interval) → interval_at table v ≡ Some i → v < n
    within v i e =
        ⊎_elim
        (λ (lt : v < n). lt)
        (λ (le : n ≤ v). absurd (none-some i (sym (get_or_past table v None (omega arith)) ∙ e)))
        (cases_lt v n)

    listed : (v : ℕ) → IsListed xs v → IsListed ys v
    listed v l =
        let was : Contains xs l.start = (l.k, slice_get_within xs l.k l.start l.at, get_or_from_slice_get xs l.k l.start l.start l.at) in
        let now = Contains-permutation xs ys l.start moved was in
        record { k = now.0; start = l.start; at = slice_get-get_or ys now.0 l.start now.1 ∙ ap (λ (z : Start). Some z) now.2; is = l.is }
