-- Marks one after the other.
use Rattle.std.proofs.Common.{◌≡◌, ◌≢◌, ◌⊎◌, ◌<◌, ◌≤◌, ℕ, Bool, true, false, List, Option, Some, None, length, get_or, set, min, max, inl, inr, ⊎_elim, refl, sym, ap, ◌∙◌, subst, arith}
use Rattle.std.proofs.lemmas.Bool.{cases_eq, cases_lt}
use Rattle.std.proofs.lemmas.List.{length-set, get_or-set_same, get_or-set_other, get_or_default}
use Rattle.im_alloc_intervals.specs.declared.marks.Interval.{Interval}
use Rattle.im_alloc_intervals.specs.Marks.{interval_at, touched, HoldsIn, IsEndOf, Adds, IsAt, flag_at, Flags}

abbrev pub Table : Type 0
Table = List (Option Interval)

pub adds_none : (L : ℕ → ℕ → Type 0) (a : Table) → ((v p : ℕ) → L v p → ⊥) → Adds L a a
adds_none L a none = record {
  count = refl;
  holds = λ v p lt m. absurd (none v p m);
  keeps = λ v p h. h;
  ends = λ v p e. inr e;
}

pub adds_more : (L M N : ℕ → ℕ → Type 0) (a b c : Table) → Adds M a b → Adds N b c → ((v p : ℕ) → v < length a → L v p → M v p ⊎ N v p) → ((v p : ℕ) → M v p → L v p) → ((v p : ℕ) → N v p → L v p) → Adds L a c
adds_more L M N a b c x y split left right = record {
  count = y.count ∙ x.count;
  holds = λ v p lt l. ⊎_elim
      (λ (m : M v p). y.keeps v p (x.holds v p lt m))
      (λ (n : N v p). y.holds v p (let e = x.count in omega arith) n)
      (split v p lt l);
  keeps = λ v p h. y.keeps v p (x.keeps v p h);
  ends = λ v p e. ⊎_elim
      (λ (n : N v p). inl (right v p n))
      (λ (o : IsEndOf (interval_at b v) p). ⊎_elim (λ (m : M v p). inl (left v p m)) (λ (z : IsEndOf (interval_at a v) p). inr z) (x.ends v p o))
      (y.ends v p e);
}

pub adds_same : (L M : ℕ → ℕ → Type 0) (a b : Table) → Adds M a b → ((v p : ℕ) → v < length a → L v p → M v p) → ((v p : ℕ) → M v p → L v p) → Adds L a b
adds_same L M a b x to from = record {
  count = x.count;
  holds = λ v p lt l. x.holds v p lt (to v p lt l);
  keeps = x.keeps;
  ends = λ v p e. ⊎_elim (λ (m : M v p). inl (from v p m)) (λ (z : IsEndOf (interval_at a v) p). inr z) (x.ends v p e);
}

-- one mark

holds_self : (o : Option Interval) (p : ℕ) → HoldsIn (Some (touched o p)) p
holds_self None p = (omega arith, omega arith)
holds_self (Some i) p = (omega arith, omega arith)

holds_still : (o : Option Interval) (p q : ℕ) → HoldsIn o q → HoldsIn (Some (touched o p)) q
holds_still None p q h = absurd h
holds_still (Some i) p q h = let a = h.0 in let b = h.1 in (omega arith, omega arith)

cases_le' : (a b : ℕ) → (a ≤ b) ⊎ (b ≤ a)
cases_le' a b = ⊎_elim (λ (k : a < b). inl (omega arith)) (λ (k : b ≤ a). inr k) (cases_lt a b)

min_is : (a b : ℕ) → (min a b ≡ a) ⊎ (min a b ≡ b)
min_is a b = ⊎_elim (λ (k : a ≤ b). inl (omega arith)) (λ (k : b ≤ a). inr (omega arith)) (cases_le' a b)

max_is : (a b : ℕ) → (max a b ≡ a) ⊎ (max a b ≡ b)
max_is a b = ⊎_elim (λ (k : a ≤ b). inr (omega arith)) (λ (k : b ≤ a). inl (omega arith)) (cases_le' a b)

ends_there : (o : Option Interval) (p q : ℕ) → IsEndOf (Some (touched o p)) q → (q ≡ p) ⊎ IsEndOf o q
ends_there None p q e = ⊎_elim (λ (x : q ≡ p). inl x) (λ (x : q ≡ p). inl x) e
ends_there (Some i) p q e =
    ⊎_elim
    (λ (x : q ≡ min i.first p). ⊎_elim (λ (y : min i.first p ≡ i.first). inr (inl (x ∙ y))) (λ (y : min i.first p ≡ p). inl (x ∙ y)) (min_is i.first p))
    (λ (x : q ≡ max i.last p). ⊎_elim (λ (y : max i.last p ≡ i.last). inr (inr (x ∙ y))) (λ (y : max i.last p ≡ p). inl (x ∙ y)) (max_is i.last p))
    e

pub adds_one : (table new : Table) (old : Option Interval) (v p : ℕ) → v < length table → old ≡ get_or table v old → new ≡ set table v (Some (touched old p)) → Adds (IsAt v p) table new
adds_one table new old v p lt was is = record {
  count = ap length is ∙ length-set table v (Some (touched old p));
  holds = λ w q small m. at_new w q m;
  keeps = λ w q h. still w q h (cases_eq w v);
  ends = λ w q e. there w q e (cases_eq w v);
}
  where
    new_at : get_or new v None ≡ Some (touched old p)
    new_at = ap (λ (z : Table). get_or z v None) is ∙ get_or-set_same table v (Some (touched old p)) None lt

    old_at : get_or table v None ≡ old
    old_at = sym (was ∙ get_or_default table v old None lt)

    other_at : (w : ℕ) → w ≢ v → get_or new w None ≡ get_or table w None
    other_at w ne = ap (λ (z : Table). get_or z w None) is ∙ get_or-set_other table v w (Some (touched old p)) None ne

    at_new : (w q : ℕ) → IsAt v p w q → HoldsIn (get_or new w None) q
    at_new w q m =
        subst (λ z. HoldsIn (get_or new z None) q) (sym m.0)
        (subst (λ z. HoldsIn z q) (sym new_at) (subst (λ z. HoldsIn (Some (touched old p)) z) (sym m.1) (holds_self old p)))

    still : (w q : ℕ) → HoldsIn (get_or table w None) q → (w ≡ v) ⊎ (w ≢ v) → HoldsIn (get_or new w None) q
    still w q h (inl e) =
        let h' : HoldsIn old q = subst (λ z. HoldsIn z q) old_at (subst (λ z. HoldsIn (get_or table z None) q) e h) in
        subst (λ z. HoldsIn (get_or new z None) q) (sym e) (subst (λ z. HoldsIn z q) (sym new_at) (holds_still old p q h'))
    still w q h (inr ne) = subst (λ z. HoldsIn z q) (sym (other_at w ne)) h

    there : (w q : ℕ) → IsEndOf (get_or new w None) q → (w ≡ v) ⊎ (w ≢ v) → IsAt v p w q ⊎ IsEndOf (get_or table w None) q
    there w q e (inl same) =
        let e' : IsEndOf (Some (touched old p)) q = subst (λ z. IsEndOf z q) new_at (subst (λ z. IsEndOf (get_or new z None) q) same e) in
        ⊎_elim
        (λ (x : q ≡ p). inl (same, x))
        (λ (x : IsEndOf old q). inr (subst (λ z. IsEndOf (get_or table z None) q) (sym same) (subst (λ z. IsEndOf z q) (sym old_at) x)))
        (ends_there old p q e')
    there w q e (inr ne) = inr (subst (λ z. IsEndOf z q) (other_at w ne) e)

-- flags

pub flags_none : (L : ℕ → Type 0) (a : List Bool) → ((v : ℕ) → L v → ⊥) → Flags L a a
flags_none L a none = record {
  count = refl;
  set = λ v lt m. absurd (none v m);
  keeps = λ v h. h;
  due = λ v e. inr e;
}

pub flags_more : (L M N : ℕ → Type 0) (a b c : List Bool) → Flags M a b → Flags N b c → ((v : ℕ) → v < length a → L v → M v ⊎ N v) → ((v : ℕ) → M v → L v) → ((v : ℕ) → N v → L v) → Flags L a c
flags_more L M N a b c x y split left right = record {
  count = y.count ∙ x.count;
  set = λ v lt l. ⊎_elim
      (λ (m : M v). y.keeps v (x.set v lt m))
      (λ (n : N v). y.set v (let e = x.count in omega arith) n)
      (split v lt l);
  keeps = λ v h. y.keeps v (x.keeps v h);
  due = λ v e. ⊎_elim
      (λ (n : N v). inl (right v n))
      (λ (o : flag_at b v ≡ true). ⊎_elim (λ (m : M v). inl (left v m)) (λ (z : flag_at a v ≡ true). inr z) (x.due v o))
      (y.due v e);
}

pub flags_same : (L M : ℕ → Type 0) (a b : List Bool) → Flags M a b → ((v : ℕ) → v < length a → L v → M v) → ((v : ℕ) → M v → L v) → Flags L a b
flags_same L M a b x to from = record {
  count = x.count;
  set = λ v lt l. x.set v lt (to v lt l);
  keeps = x.keeps;
  due = λ v e. ⊎_elim (λ (m : M v). inl (from v m)) (λ (z : flag_at a v ≡ true). inr z) (x.due v e);
}

pub flags_one : (a b : List Bool) (v : ℕ) → v < length a → b ≡ set a v true → Flags (λ w. w ≡ v) a b
flags_one a b v lt is = record {
  count = ap length is ∙ length-set a v true;
  set = λ w small e. subst (λ z. get_or b z false ≡ true) (sym e) at_v;
  keeps = λ w h. still w h (cases_eq w v);
  due = λ w h. from w h (cases_eq w v);
}
  where
    at_v : get_or b v false ≡ true
    at_v = ap (λ (z : List Bool). get_or z v false) is ∙ get_or-set_same a v true false lt

    other : (w : ℕ) → w ≢ v → get_or b w false ≡ get_or a w false
    other w ne = ap (λ (z : List Bool). get_or z w false) is ∙ get_or-set_other a v w true false ne

    still : (w : ℕ) → get_or a w false ≡ true → (w ≡ v) ⊎ (w ≢ v) → get_or b w false ≡ true
    still w h (inl e) = subst (λ z. get_or b z false ≡ true) (sym e) at_v
    still w h (inr ne) = other w ne ∙ h

    from : (w : ℕ) → get_or b w false ≡ true → (w ≡ v) ⊎ (w ≢ v) → (w ≡ v) ⊎ (get_or a w false ≡ true)
    from w h (inl e) = inl e
    from w h (inr ne) = inr (sym (other w ne) ∙ h)
