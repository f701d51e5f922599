-- Objects one behind the other.
use Rattle.std.proofs.Common.{◌≡◌, ℕ, zero, suc, ◌+◌, ◌-◌, ◌*◌, ◌%◌, ◌<◌, ◌≤◌, ◌⊎◌, inl, inr, Bool, true, false, cond, List, [], ◌∷◌, ◌++◌, length, get_or, Option, Some, None, sym, ap, ◌∙◌, refl, arith}
use Rattle.std.specs.Prelude.{slice_get, slice_index, nat_le, nat_lt}
use Rattle.std.proofs.lemmas.Bool.Decides.{nat_tests}
use Rattle.im_store.specs.Objects.{Name, Named, Slot, Link, Shape, shape_of}
use Rattle.im_block.specs.declared.unit.Object.{Object}
use Rattle.im_block.specs.declared.unit.Function.{Function}
use Rattle.im_block.specs.Meaning.{shape_at, slot_shape, link_shape, shapes_of}
use Rattle.std.proofs.Common.{drop, add-one, append_assoc}
use Rattle.std.proofs.Math.Seq.{drop-cons}
use Rattle.im_frame.specs.declared.layout.Layout.{Layout}
use Rattle.im_frame.specs.Layout.{room, rooms, places_from, bytes_of, place_of, IsLayout}

pub count_from : (at : ℕ) (os : List Object) → length (places_from at os) ≡ length os
count_from at [] = refl
count_from at (o ∷ os) = ap suc (count_from (at + room o.size) os)

-- the k-th of them
pub record Lies (at : ℕ) (os : List Object) (k : ℕ) (o : Object) : Type 0 where
  pub low : at ≤ slice_index (places_from at os) k
  pub high : slice_index (places_from at os) k + o.size < at + rooms os
  pub even : slice_index (places_from at os) k % 4 ≡ at % 4

enough : (size : ℕ) → size < room size
enough size = omega arith

pub lies : (at : ℕ) (os : List Object) (k : ℕ) (o : Object) → slice_get os k ≡ Some o → Lies at os k o
lies at [] k o h = absurd cc
lies at (q ∷ os) zero o h = (let e : q ≡ o = cc in let s = ap (λ (z : Object). z.size) e in let f = enough q.size in record { low = omega arith; high = omega arith; even = refl })
lies at (q ∷ os) (suc k) o h =
    let r = lies (at + room q.size) os k o h in
    let l = r.low in
    let u = r.high in
    let e = r.even in
    record { low = omega arith; high = omega arith; even = omega arith }

pub apart : (at : ℕ) (os : List Object) (j k : ℕ) (o q : Object) → slice_get os j ≡ Some o → slice_get os k ≡ Some q → j < k → slice_index (places_from at os) j + o.size < slice_index (places_from at os) k
apart at [] j k o q h g l = absurd cc
apart at (x ∷ os) zero zero o q h g l = absurd (omega arith)
apart at (x ∷ os) zero (suc k) o q h g l = (let e : x ≡ o = cc in let s = ap (λ (z : Object). z.size) e in let f = enough x.size in let r = (lies (at + room x.size) os k q g).low in omega arith)
apart at (x ∷ os) (suc j) zero o q h g l = absurd (omega arith)
apart at (x ∷ os) (suc j) (suc k) o q h g l = apart (at + room x.size) os j k o q h g (omega arith)

-- an object of a function, by its number in the program
record Declares (f : Function) (n : ℕ) (sh : Shape) : Type 0 where
  object : Object
  there : slice_get f.objects.items (n - f.first_object) ≡ Some object
  from : f.first_object ≤ n
  size : sh.size ≡ object.size

declared : (f : Function) (n : ℕ) (sh : Shape) → shapes_of f (Named n) ≡ Some sh → Declares f n sh
declared f n sh h = by (nat_le f.first_object n) refl (slice_get f.objects.items (n - f.first_object)) refl h
  where
    below : nat_le f.first_object n ≡ true → f.first_object ≤ n
    below t = grind (arith, nat_tests)

    by : (b : Bool) → nat_le f.first_object n ≡ b → (o : Option Object) → slice_get f.objects.items (n - f.first_object) ≡ o → cond b (shape_at o) None ≡ Some sh → Declares f n sh
    by true t None g e = absurd cc
    by true t (Some o) g e = (let q : shape_of o.size o.cells.items ≡ sh = cc in record { object = o; there = g; from = below t; size = ap (λ (z : Shape). z.size) (sym q) })
    by false t o g e = absurd cc

slot_is : (f : Function) (n : ℕ) (sh : Shape) → shapes_of f (Slot n) ≡ Some sh → (n < f.slots) × (sh.size ≡ 4)
slot_is f n sh h = by (nat_lt n f.slots) refl h
  where
    below : nat_lt n f.slots ≡ true → n < f.slots
    below t = grind (arith, nat_tests)

    by : (b : Bool) → nat_lt n f.slots ≡ b → cond b (Some slot_shape) None ≡ Some sh → (n < f.slots) × (sh.size ≡ 4)
    by true t e = (below t, (let q : slot_shape ≡ sh = cc in ap (λ (z : Shape). z.size) (sym q)))
    by false t e = absurd cc

link_is : (f : Function) (sh : Shape) → shapes_of f Link ≡ Some sh → sh.size ≡ 4
link_is f sh h = (let q : link_shape ≡ sh = cc in ap (λ (z : Shape). z.size) (sym q))

rooms_even : (os : List Object) → rooms os % 4 ≡ 0
rooms_even [] = refl
rooms_even (o ∷ os) = let e = rooms_even os in omega arith

three_ways : (i j : ℕ) → (i ≡ j) ⊎ (i < j) ⊎ (j < i)
three_ways i j = grind arith

-- what the loops have made is a layout
pub laid : (f : Function) (l : Layout) → l.frame ≡ bytes_of f → l.frame ≤ 65536 → bytes_of f ≤ f.need → l.places.items ≡ places_from (8 + 8 * f.slots) f.objects.items → IsLayout f l
laid f l bytes small need are = record {
  bytes = bytes;
  need = omega arith;
  small = small;
  even = (let e = rooms_even f.objects.items in omega arith);
  count = ap length are ∙ count_from (8 + 8 * f.slots) f.objects.items;
  inside = inside;
  even_places = even;
  apart = parts;
}
  where
    base : ℕ
    base = 8 + 8 * f.slots

    at : (n : ℕ) → place_of f l (Named n) ≡ slice_index (places_from base f.objects.items) (n - f.first_object)
    at n = ap (λ (z : List ℕ). slice_index z (n - f.first_object)) are

    inside : (a : Name) (sh : Shape) → shapes_of f a ≡ Some sh → place_of f l a + sh.size < l.frame
    inside (Named n) sh h = let d = declared f n sh h in let q = (lies base f.objects.items (n - f.first_object) d.object d.there).high in let e = at n in let s = d.size in omega arith
    inside (Slot n) sh h = let s = slot_is f n sh h in let a = s.0 in let b = s.1 in omega arith
    inside Link sh h = let s = link_is f sh h in omega arith

    even : (a : Name) (sh : Shape) → shapes_of f a ≡ Some sh → place_of f l a % 4 ≡ 0
    even (Named n) sh h = let d = declared f n sh h in let q = (lies base f.objects.items (n - f.first_object) d.object d.there).even in let e = at n in omega arith
    even (Slot n) sh h = omega arith
    even Link sh h = refl

    behind : (n : ℕ) (sh : Shape) → shapes_of f (Named n) ≡ Some sh → base ≤ place_of f l (Named n)
    behind n sh h = let d = declared f n sh h in let q = (lies base f.objects.items (n - f.first_object) d.object d.there).low in let e = at n in omega arith

    parts : (a : Name) (sh : Shape) (b : Name) (th : Shape) → shapes_of f a ≡ Some sh → shapes_of f b ≡ Some th → (a ≡ b) ⊎ (place_of f l a + sh.size < place_of f l b) ⊎ (place_of f l b + th.size < place_of f l a)
    parts (Named n) sh (Named m) th h k =
        let d = declared f n sh h in
        let q = declared f m th k in
        let e = at n in
        let g = at m in
        let s = d.size in
        let t = q.size in
        let x = d.from in
        let y = q.from in
        elim (three_ways n m) [
          | inl i ↦ inl (ap Named i)
          | inr (inl i) ↦ inr (inl (let z = apart base f.objects.items (n - f.first_object) (m - f.first_object) d.object q.object d.there q.there (omega arith) in omega arith))
          | inr (inr i) ↦ inr (inr (let z = apart base f.objects.items (m - f.first_object) (n - f.first_object) q.object d.object q.there d.there (omega arith) in omega arith))
        ]
    parts (Named n) sh (Slot m) th h k = let z = behind n sh h in let s = slot_is f m th k in let a = s.0 in let b = s.1 in inr (inr (omega arith))
    parts (Named n) sh Link th h k = let z = behind n sh h in let s = link_is f th k in inr (inr (omega arith))
    parts (Slot n) sh (Named m) th h k = let z = behind m th k in let s = slot_is f n sh h in let a = s.0 in let b = s.1 in inr (inl (omega arith))
    parts (Slot n) sh (Slot m) th h k =
        let s = (slot_is f n sh h).1 in
        let t = (slot_is f m th k).1 in
        elim (three_ways n m) [ inl i ↦ inl (ap Slot i) | inr (inl i) ↦ inr (inl (omega arith)) | inr (inr i) ↦ inr (inr (omega arith)) ]
    parts (Slot n) sh Link th h k = let s = link_is f th k in inr (inr (omega arith))
    parts Link sh (Named m) th h k = let z = behind m th k in let s = link_is f sh h in inr (inl (omega arith))
    parts Link sh (Slot m) th h k = let s = link_is f sh h in inr (inl (omega arith))
    parts Link sh Link th h k = inl refl

-- a step of the loops

pub rooms_step : (os : List Object) (i : ℕ) (o : Object) → i < length os → o ≡ get_or os i o → rooms (drop i os) ≡ room o.size + rooms (drop (i + 1) os)
rooms_step os i o h e = ap rooms (drop-cons os i o h) ∙ ap (λ (z : Object). room z.size + rooms (drop (suc i) os)) (sym e) ∙ ap (λ z. room o.size + rooms (drop z os)) (sym (add-one i))

pub places_step : (done : List ℕ) (next : ℕ) (os : List Object) (i : ℕ) (o : Object) → i < length os → o ≡ get_or os i o → (done ++ next ∷ []) ++ places_from (next + room o.size) (drop (i + 1) os) ≡ done ++ places_from next (drop i os)
places_step done next os i o h e =
    append_assoc done (next ∷ []) (places_from (next + room o.size) (drop (i + 1) os))
    ∙ ap (λ z. done ++ next ∷ places_from (next + room o.size) (drop z os)) (add-one i)
    ∙ ap (λ (z : Object). done ++ next ∷ places_from (next + room z.size) (drop (suc i) os)) e
    ∙ ap (λ z. done ++ places_from next z) (sym (drop-cons os i o h))
