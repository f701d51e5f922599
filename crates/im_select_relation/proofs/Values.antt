-- Values and the words that they are: numbers, places in objects, comparisons of places.
use Rattle.std.proofs.Common.{◌≡◌, ◌≢◌, ℕ, ◌+◌, ◌^◌, ◌<◌, ◌≤◌, inl, inr, Bool, true, false, List, Option, Some, None, ℤ, pos, negsuc, sym, ap, ◌∙◌, subst, refl, arith}
use Rattle.std.specs.Prelude.{◌==◌, ◌&&◌, nat_lt, not}
use Rattle.std.proofs.lemmas.Bool.Decides.{nat_tests}
use Rattle.im_rv.specs.Steps.{sum_of, difference_of, as_number}
use Rattle.im_select_relation.proofs.Words.{word_of}
use Rattle.im_store.specs.Checks.{Fine, unless}
use Rattle.im_store.specs.declared.undefined.Undefined.{Undefined}
use Rattle.im_store.specs.Objects.{Name, Named, Slot, Link, Object, Value, Number, Pointer, Shape, Store, same_name, same_object, is_there, lives}
use Rattle.im_store.specs.Pointers.{reaches, within}
use Rattle.im_select_relation.specs.Linking.{Linking, Means, address}
use Rattle.im_select_relation.proofs.Registers.{means_at, truth}
use Rattle.im_select_relation.proofs.Mapped.{Mark, Mapped, object_is}

pub both_true : (a b : Bool) → (a && b) ≡ true → (a ≡ true) × (b ≡ true)
both_true true b h = (refl, h)
both_true false b h = absurd cc

-- what a check gives where it gives something
pub unless_fine : {A : Type 0} (b : Bool) (a v : A) (why : Undefined) → unless b a why ≡ Fine v → (b ≡ true) × (a ≡ v)
unless_fine true a v why h = (refl, cc)
unless_fine false a v why h = absurd cc

name_true : (a b : Name) → same_name a b ≡ true → a ≡ b
name_true (Named m) (Named n) h = ap Named (let e : m ≡ n = grind (arith, nat_tests) in e)
name_true (Named m) (Slot n) h = absurd cc
name_true (Named m) Link h = absurd cc
name_true (Slot m) (Named n) h = absurd cc
name_true (Slot m) (Slot n) h = ap Slot (let e : m ≡ n = grind (arith, nat_tests) in e)
name_true (Slot m) Link h = absurd cc
name_true Link (Named n) h = absurd cc
name_true Link (Slot n) h = absurd cc
name_true Link Link h = refl

same_number : (n : ℕ) → (n == n) ≡ true
same_number n = grind (arith, nat_tests)

name_refl : (a : Name) → same_name a a ≡ true
name_refl (Named m) = same_number m
name_refl (Slot m) = same_number m
name_refl Link = refl

equal_true : (a b : ℕ) → (a == b) ≡ true → a ≡ b
equal_true a b h = grind (arith, nat_tests)

pub same_true : (o q : Object) → same_object o q ≡ true → o ≡ q
same_true o q h =
    let k = both_true (o.activation == q.activation && o.depth == q.depth) (same_name o.name q.name) h in
    let l = both_true (o.activation == q.activation) (o.depth == q.depth) k.0 in
    object_is o q (equal_true o.activation q.activation l.0) (equal_true o.depth q.depth l.1) (name_true o.name q.name k.1)

pub same_refl : (o : Object) → same_object o o ≡ true
same_refl o =
    ap (λ z. z && (o.depth == o.depth) && same_name o.name o.name) (same_number o.activation)
    ∙ ap (λ z. z && same_name o.name o.name) (same_number o.depth)
    ∙ name_refl o.name

pub same_by : (o q : Object) → o ≡ q → same_object o q ≡ true
same_by o q e = subst (λ z. same_object o z ≡ true) e (same_refl o)

-- an object lives
pub record Live (shape : Object → Option Shape) (o : Object) : Type 0 where
  pub sh : Shape
  pub live : shape o ≡ Some sh

live_by : (shape : Object → Option Shape) (o : Object) (s : Option Shape) → shape o ≡ s → is_there s ≡ true → Live shape o
live_by shape o None e h = absurd cc
live_by shape o (Some sh) e h = record { sh = sh; live = e }

pub live : (store : Store) (o : Object) → lives store o ≡ true → Live store.shape o
live store o h = live_by store.shape o (store.shape o) refl h

-- a place in a live object, or directly behind it
pub record Within (shape : Object → Option Shape) (o : Object) (i : ℕ) : Type 0 where
  pub sh : Shape
  pub live : shape o ≡ Some sh
  pub fits : i ≤ sh.size

within_by : (shape : Object → Option Shape) (o : Object) (i : ℕ) (s : Option Shape) → shape o ≡ s → reaches s i ≡ true → Within shape o i
within_by shape o i None e h = absurd cc
within_by shape o i (Some sh) e h = record { sh = sh; live = e; fits = (let k = h in grind (arith, nat_tests)) }

pub reached : (shape : Object → Option Shape) (o : Object) (i : ℕ) → reaches (shape o) i ≡ true → Within shape o i
reached shape o i h = within_by shape o i (shape o) refl h

-- a pointer to a live object is within it
pub within_live : (p : Linking) (shape : Object → Option Shape) (frames : List Mark) (o : Object) (i : ℕ) → Mapped p shape frames → i ≤ p.size o.name → Live shape o → Within shape o i
within_live p shape frames o i m h l = record { sh = l.sh; live = l.live; fits = (let e = (m.lies o l.sh l.live).sized in omega arith) }

-- no such place wraps
pub no_wrap : (p : Linking) (shape : Object → Option Shape) (frames : List Mark) (o : Object) (i : ℕ) → Mapped p shape frames → Within shape o i → (address p o + i < 3145728) × (1048576 ≤ address p o)
no_wrap p shape frames o i m w = let h = (m.lies o w.sh w.live).high in let k = w.fits in (omega arith, (m.lies o w.sh w.live).low)

-- a place that was checked
pub within_means : (p : Linking) (store : Store) (frames : List Mark) (o : Object) (z : ℤ) (v : Value) (w : ℕ) → Mapped p store.shape frames → within store o z ≡ Fine v → ((i : ℕ) → z ≡ pos i → w ≡ sum_of (address p o) i) → Means p v w
within_means p store frames o (negsuc n) v w m e h = absurd cc
within_means p store frames o (pos i) v w m e h =
    let f = unless_fine (reaches (store.shape o) i) (Pointer o i) v _ e in
    let k = reached store.shape o i f.0 in
    let s = (m.lies o k.sh k.live).sized in
    let t = k.fits in
    means_at p (Pointer o i) v w w (sym f.1) refl (h i refl, omega arith, (m.lies o k.sh k.live).placed)

pub bool_means : (p : Linking) (b c : Bool) → c ≡ b → Means p (Number (pos (as_number b))) (as_number c)
bool_means p true c e = ap as_number e ∙ sym (word_of 1 (omega arith))
bool_means p false c e = ap as_number e ∙ sym (word_of 0 (omega arith))

pub equal_places : (p : Linking) (shape : Object → Option Shape) (frames : List Mark) (o q : Object) (i j : ℕ) → Mapped p shape frames → Within shape o i → Within shape q j → (address p o + i == address p q + j) ≡ (same_object o q && i == j)
equal_places p shape frames o q i j mp wo wq = elim (mp.apart o wo.sh q wq.sh wo.live wq.live) [
  | inl e ↦ same e
  | inr (inl l) ↦ other (omega arith) (λ e. let f : address p o ≡ address p q = ap (λ z. address p z) e in omega arith)
  | inr (inr l) ↦ other (omega arith) (λ e. let f : address p o ≡ address p q = ap (λ z. address p z) e in omega arith)
]
  where
    fo : i ≤ wo.sh.size
    fo = wo.fits

    fq : j ≤ wq.sh.size
    fq = wq.fits

    same : o ≡ q → (address p o + i == address p q + j) ≡ (same_object o q && i == j)
    same e =
        let t = same_by o q e in
        let a : address p o ≡ address p q = ap (λ z. address p z) e in
        let h : (address p o + i == address p q + j) ≡ (i == j) = shift (address p o) (address p q) i j a in
        h ∙ sym (ap (λ z. z && i == j) t)
      where
        shift : (a b i j : ℕ) → a ≡ b → (a + i == b + j) ≡ (i == j)
        shift a b i j e = grind (arith, nat_tests)

    other : address p o + i ≢ address p q + j → o ≢ q → (address p o + i == address p q + j) ≡ (same_object o q && i == j)
    other ne apart = elim (truth (same_object o q)) [
      | inl t ↦ absurd (apart (same_true o q t))
      | inr t ↦ (let h : (address p o + i == address p q + j) ≡ false = differ (address p o + i) (address p q + j) ne in h ∙ sym (ap (λ z. z && i == j) t))
    ]
      where
        differ : (a b : ℕ) → a ≢ b → (a == b) ≡ false
        differ a b h = grind (arith, nat_tests)

-- the words of two values are equal as the machine tests it
pub no_difference : (x y : ℕ) → x < 2 ^ 32 → y < 2 ^ 32 → nat_lt (difference_of x y) 1 ≡ (x == y)
no_difference x y a b = grind (arith, nat_tests)

pub some_difference : (x y : ℕ) → x < 2 ^ 32 → y < 2 ^ 32 → nat_lt 0 (difference_of x y) ≡ not (x == y)
some_difference x y a b = grind (arith, nat_tests)
