-- Marks by an index, one after the other.
use Rattle.std.proofs.Common.{◌≡◌, ◌≢◌, ◌<◌, ◌≤◌, ◌+◌, ℕ, Bool, List, Some, length, inl, inr, ⊎_elim, sym, ◌∙◌, subst, arith}
use Rattle.std.specs.Prelude.{slice_get}
use Rattle.std.proofs.lemmas.Bool.{cases_eq}
use Rattle.std.proofs.lemmas.Option.{slice_get_within, same_Some}
use Rattle.im_alloc_intervals.specs.Marks.{Adds, Flags}
use Rattle.im_alloc_intervals.specs.Tables.{At}
use Rattle.im_alloc_intervals.proofs.Adding.{Table, adds_none, adds_more, adds_same, flags_none, flags_more, flags_same}

-- by an index below a number
abbrev pub Under : (ℕ → ℕ → ℕ → Type 0) → ℕ → ℕ → ℕ → Type 0
Under F i v p = (k : ℕ) × (k < i) × F k v p

pub adds_start : (F : ℕ → ℕ → ℕ → Type 0) (a : Table) → Adds (Under F 0) a a
adds_start F a = adds_none (Under F 0) a (λ v p k. (let lt = k.1 in absurd (omega arith)))

pub adds_next : (F : ℕ → ℕ → ℕ → Type 0) (i : ℕ) (a b c : Table) → Adds (Under F i) a b → Adds (F i) b c → Adds (Under F (i + 1)) a c
adds_next F i a b c x y =
    adds_more (Under F (i + 1)) (Under F i) (F i) a b c x y
    (λ v p lt k. ⊎_elim
    (λ (e : k.0 ≡ i). inr (subst (λ z. F z v p) e k.2))
    (λ (ne : k.0 ≢ i). (let less = k.1 in inl (k.0, omega arith, k.2)))
    (cases_eq k.0 i))
    (λ v p k. (let less = k.1 in (k.0, omega arith, k.2)))
    (λ v p k. (i, omega arith, k))

pub adds_all : (F : ℕ → ℕ → ℕ → Type 0) (L : ℕ → ℕ → Type 0) (i : ℕ) (a b : Table) → ((v p : ℕ) → L v p → (k : ℕ) × F k v p) → ((v p k : ℕ) → F k v p → L v p) → ((v p k : ℕ) → F k v p → k < i) → Adds (Under F i) a b → Adds L a b
adds_all F L i a b to from less x = adds_same L (Under F i) a b x (λ v p lt l. (let k = to v p l in (k.0, less v p k.0 k.1, k.1))) (λ v p k. from v p k.0 k.2)

abbrev pub Below : (ℕ → ℕ → Type 0) → ℕ → ℕ → Type 0
Below F i v = (k : ℕ) × (k < i) × F k v

pub flags_start : (F : ℕ → ℕ → Type 0) (a : List Bool) → Flags (Below F 0) a a
flags_start F a = flags_none (Below F 0) a (λ v k. (let lt = k.1 in absurd (omega arith)))

pub flags_next : (F : ℕ → ℕ → Type 0) (i : ℕ) (a b c : List Bool) → Flags (Below F i) a b → Flags (F i) b c → Flags (Below F (i + 1)) a c
flags_next F i a b c x y =
    flags_more (Below F (i + 1)) (Below F i) (F i) a b c x y
    (λ v lt k. ⊎_elim
    (λ (e : k.0 ≡ i). inr (subst (λ z. F z v) e k.2))
    (λ (ne : k.0 ≢ i). (let less = k.1 in inl (k.0, omega arith, k.2)))
    (cases_eq k.0 i))
    (λ v k. (let less = k.1 in (k.0, omega arith, k.2)))
    (λ v k. (i, omega arith, k))

pub flags_all : (F : ℕ → ℕ → Type 0) (L : ℕ → Type 0) (i : ℕ) (a b : List Bool) → ((v : ℕ) → L v → (k : ℕ) × F k v) → ((v k : ℕ) → F k v → L v) → ((v k : ℕ) → F k v → k < i) → Flags (Below F i) a b → Flags L a b
flags_all F L i a b to from less x = flags_same L (Below F i) a b x (λ v lt l. (let k = to v l in (k.0, less v k.0 k.1, k.1))) (λ v k. from v k.0 k.2)

-- each by what stands at its index

module _ {X : Type 0} (xs : List X) (F : ℕ → X → ℕ → ℕ → Type 0) where
  abbrev By : ℕ → ℕ → ℕ → Type 0
  By k v p = At xs k (λ (y : X). F k y v p)

  pub adds_at : (i : ℕ) (x : X) (a b c : Table) → slice_get xs i ≡ Some x → Adds (Under By i) a b → Adds (F i x) b c → Adds (Under By (i + 1)) a c
  adds_at i x a b c at m n =
      adds_next By i a b c m
      (adds_same (By i) (F i x) b c n
      (λ v p small k. subst (λ (z : X). F i z v p) (same_Some k.0 x (sym k.1 ∙ at)) k.2)
      (λ v p k. (x, at, k)))

  pub adds_ats : (i : ℕ) (a b : Table) → length xs ≤ i → Adds (Under By i) a b → Adds (λ (v p : ℕ). (k : ℕ) × By k v p) a b
  adds_ats i a b le m = adds_all By (λ (v p : ℕ). (k : ℕ) × By k v p) i a b (λ v p l. l) (λ v p k f. (k, f)) (λ v p k f. (let lt = slice_get_within xs k f.0 f.1 in omega arith)) m

module _ {X : Type 0} (xs : List X) (F : ℕ → X → ℕ → Type 0) where
  abbrev FlagBy : ℕ → ℕ → Type 0
  FlagBy k v = At xs k (λ (y : X). F k y v)

  pub flags_at : (i : ℕ) (x : X) (a b c : List Bool) → slice_get xs i ≡ Some x → Flags (Below FlagBy i) a b → Flags (F i x) b c → Flags (Below FlagBy (i + 1)) a c
  flags_at i x a b c at m n =
      flags_next FlagBy i a b c m
      (flags_same (FlagBy i) (F i x) b c n
      (λ v small k. subst (λ (z : X). F i z v) (same_Some k.0 x (sym k.1 ∙ at)) k.2)
      (λ v k. (x, at, k)))

  pub flags_ats : (i : ℕ) (a b : List Bool) → length xs ≤ i → Flags (Below FlagBy i) a b → Flags (λ (v : ℕ). (k : ℕ) × FlagBy k v) a b
  flags_ats i a b le m = flags_all FlagBy (λ (v : ℕ). (k : ℕ) × FlagBy k v) i a b (λ v l. l) (λ v k f. (k, f)) (λ v k f. (let lt = slice_get_within xs k f.0 f.1 in omega arith)) m
