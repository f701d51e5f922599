-- Numbers of accesses that stand apart, piece by piece.
use Rattle.std.proofs.Common.{◌≡◌, ℕ, zero, suc, ◌<◌, ◌≤◌, ◌⊎◌, inl, inr, ⊎_elim, List, [], ◌∷◌, ◌++◌, Some, refl, sym, ap, subst, arith}
use Rattle.std.specs.Prelude.{slice_get}
use Rattle.im_block.specs.Sections.{Has}
use Rattle.im_block.specs.Wellformed.{AreApart}

-- none stands twice
abbrev pub Once : List ℕ → Type 0
Once [] = Unit {0}
Once (x ∷ xs) = (Has xs x → ⊥) × Once xs

record Found (xs : List ℕ) (a : ℕ) : Type 0 where
  at : ℕ
  is : slice_get xs at ≡ Some a

found : (xs : List ℕ) (a : ℕ) → Has xs a → Found xs a
found [] a h = absurd h
found (x ∷ xs) a h = ⊎_elim (λ (e : x ≡ a). record { at = 0; is = ap (λ z. Some z) e }) (λ (k : Has xs a). let f = found xs a k in record { at = suc f.at; is = f.is }) h

has_at : (xs : List ℕ) (i a : ℕ) → slice_get xs i ≡ Some a → Has xs a
has_at [] i a e = cc
has_at (x ∷ xs) zero a e = inl cc
has_at (x ∷ xs) (suc i) a e = inr (has_at xs i a e)

apart_tail : (x : ℕ) (xs : List ℕ) → AreApart (x ∷ xs) → AreApart xs
apart_tail x xs h = record { each = λ i j a e f. let k : suc i ≡ suc j = h.each (suc i) (suc j) a e f in omega arith }

pub once_of : (xs : List ℕ) → AreApart xs → Once xs
once_of [] h = tt
once_of (x ∷ xs) h = (
  λ (k : Has xs x).
      let f = found xs x k in
      let e : 0 ≡ suc f.at = h.each 0 (suc f.at) x refl f.is in
      omega arith,
  once_of xs (apart_tail x xs h),
)

same_place : (xs : List ℕ) → Once xs → (i j a : ℕ) → slice_get xs i ≡ Some a → slice_get xs j ≡ Some a → i ≡ j
same_place [] h i j a e f = cc
same_place (x ∷ xs) h zero zero a e f = refl
same_place (x ∷ xs) h zero (suc j) a e f = let one : a ≡ x = cc in absurd (h.0 (subst (Has xs) one (has_at xs j a f)))
same_place (x ∷ xs) h (suc i) zero a e f = let one : a ≡ x = cc in absurd (h.0 (subst (Has xs) one (has_at xs i a e)))
same_place (x ∷ xs) h (suc i) (suc j) a e f = ap suc (same_place xs h.1 i j a e f)

pub apart_of : (xs : List ℕ) → Once xs → AreApart xs
apart_of xs h = record { each = λ i j a e f. same_place xs h i j a e f }

pub has_split : (xs ys : List ℕ) (a : ℕ) → Has (xs ++ ys) a → Has xs a ⊎ Has ys a
has_split [] ys a h = inr h
has_split (x ∷ xs) ys a h = ⊎_elim (λ (e : x ≡ a). inl (inl e)) (λ (k : Has (xs ++ ys) a). ⊎_elim (λ (l : Has xs a). inl (inr l)) (λ (r : Has ys a). inr r) (has_split xs ys a k)) h

pub has_left : (xs ys : List ℕ) (a : ℕ) → Has xs a → Has (xs ++ ys) a
has_left [] ys a h = absurd h
has_left (x ∷ xs) ys a h = ⊎_elim (λ (e : x ≡ a). inl e) (λ (k : Has xs a). inr (has_left xs ys a k)) h

pub has_right : (xs ys : List ℕ) (a : ℕ) → Has ys a → Has (xs ++ ys) a
has_right [] ys a h = h
has_right (x ∷ xs) ys a h = inr (has_right xs ys a h)

once_join : (xs ys : List ℕ) → Once xs → Once ys → ((a : ℕ) → Has xs a → Has ys a → ⊥) → Once (xs ++ ys)
once_join [] ys h k apart = k
once_join (x ∷ xs) ys h k apart = (
  λ (t : Has (xs ++ ys) x). ⊎_elim h.0 (λ (r : Has ys x). apart x (inl refl) r) (has_split xs ys x t),
  once_join xs ys h.1 k (λ a l r. apart a (inr l) r),
)

once_left : (xs ys : List ℕ) → Once (xs ++ ys) → Once xs
once_left [] ys h = tt
once_left (x ∷ xs) ys h = (λ (k : Has xs x). h.0 (has_left xs ys x k), once_left xs ys h.1)

once_right : (xs ys : List ℕ) → Once (xs ++ ys) → Once ys
once_right [] ys h = h
once_right (x ∷ xs) ys h = once_right xs ys h.1

once_apart : (xs ys : List ℕ) → Once (xs ++ ys) → (a : ℕ) → Has xs a → Has ys a → ⊥
once_apart [] ys h a l r = absurd l
once_apart (x ∷ xs) ys h a l r =
    ⊎_elim
    (λ (e : x ≡ a). h.0 (has_right xs ys x (subst (Has ys) (sym e) r)))
    (λ (k : Has xs a). once_apart xs ys h.1 a k r)
    l

-- numbers that are old ones, or new ones from low on and below high
pub record Fresh (old new : List ℕ) (low high : ℕ) : Type 0 where
  pub each : (a : ℕ) → Has new a → Has old a ⊎ ((low ≤ a) × (a < high))
  pub once : Once new

abbrev pub Below : List ℕ → ℕ → Type 0
Below xs n = (a : ℕ) → Has xs a → a < n

pub fresh_none : (low high : ℕ) → Fresh [] [] low high
fresh_none low high = record { each = λ a h. absurd h; once = tt }

pub fresh_wide : (old new : List ℕ) (low high low' high' : ℕ) → low' ≤ low → high ≤ high' → Fresh old new low high → Fresh old new low' high'
fresh_wide old new low high low' high' le ge h = record {
  each = λ a k. ⊎_elim (λ (o : Has old a). inl o) (λ (q : (low ≤ a) × (a < high)). inr (let l = q.0 in let r = q.1 in (omega arith, omega arith))) (h.each a k);
  once = h.once;
}

-- a new number before others
pub fresh_new : (old new : List ℕ) (low high n : ℕ) → n < low → low ≤ high → Below old low → (Has old n → ⊥) → Fresh old new low high → Fresh old (n ∷ new) n high
fresh_new old new low high n lt le below none h = record {
  each = λ a k.
      ⊎_elim
      (λ (e : n ≡ a). inr (omega arith, omega arith))
      (λ (t : Has new a). ⊎_elim (λ (o : Has old a). inl o) (λ (q : (low ≤ a) × (a < high)). inr (let l = q.0 in let r = q.1 in (omega arith, omega arith))) (h.each a t))
      k;
  once = (λ (t : Has new n). ⊎_elim none (λ (q : (low ≤ n) × (n < high)). let l = q.0 in omega arith) (h.each n t), h.once);
}

-- an old number before new ones
pub fresh_own : (new : List ℕ) (low high n : ℕ) → n < low → Fresh [] new low high → Fresh (n ∷ []) (n ∷ new) low high
fresh_own new low high n lt h = record {
  each = λ a k. ⊎_elim (λ (e : n ≡ a). inl (inl e)) (λ (t : Has new a). ⊎_elim (λ (o : ⊥). absurd o) (λ (q : (low ≤ a) × (a < high)). inr q) (h.each a t)) k;
  once = (λ (t : Has new n). ⊎_elim (λ (o : ⊥). o) (λ (q : (low ≤ n) × (n < high)). let l = q.0 in omega arith) (h.each n t), h.once);
}

-- one piece behind the other
pub fresh_join : (old old' new new' : List ℕ) (low middle high : ℕ) → low ≤ middle → middle ≤ high → Once (old ++ old') → Below (old ++ old') low → Fresh old new low middle → Fresh old' new' middle high → Fresh (old ++ old') (new ++ new') low high
fresh_join old old' new new' low middle high le ge once below h k = record {
  each = λ a t.
      ⊎_elim
      (λ (l : Has new a). ⊎_elim (λ (o : Has old a). inl (has_left old old' a o)) (λ (q : (low ≤ a) × (a < middle)). inr (let x = q.0 in let y = q.1 in (omega arith, omega arith))) (h.each a l))
      (λ (r : Has new' a). ⊎_elim (λ (o : Has old' a). inl (has_right old old' a o)) (λ (q : (middle ≤ a) × (a < high)). inr (let x = q.0 in let y = q.1 in (omega arith, omega arith))) (k.each a r))
      (has_split new new' a t);
  once = once_join new new' h.once k.once (λ a l r.
      ⊎_elim
      (λ (o : Has old a).
      ⊎_elim
      (λ (p : Has old' a). once_apart old old' once a o p)
      (λ (q : (middle ≤ a) × (a < high)). let x = q.0 in let b = below a (has_left old old' a o) in omega arith)
      (k.each a r))
      (λ (q : (low ≤ a) × (a < middle)).
      let x = q.0 in
      let y = q.1 in
      ⊎_elim
      (λ (p : Has old' a). let b = below a (has_right old old' a p) in omega arith)
      (λ (s : (middle ≤ a) × (a < high)). let z = s.0 in omega arith)
      (k.each a r))
      (h.each a l));
}

pub split_left : (old old' : List ℕ) → Once (old ++ old') → Once old
split_left old old' h = once_left old old' h

pub split_right : (old old' : List ℕ) → Once (old ++ old') → Once old'
split_right old old' h = once_right old old' h

pub below_left : (old old' : List ℕ) (n : ℕ) → Below (old ++ old') n → Below old n
below_left old old' n h a k = h a (has_left old old' a k)

pub below_right : (old old' : List ℕ) (n : ℕ) → Below (old ++ old') n → Below old' n
below_right old old' n h a k = h a (has_right old old' a k)

pub below_more : (xs : List ℕ) (n m : ℕ) → n ≤ m → Below xs n → Below xs m
below_more xs n m le h a k = let b = h a k in omega arith
