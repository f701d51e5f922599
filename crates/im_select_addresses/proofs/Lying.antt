-- Statics one behind the other.
use Rattle.std.proofs.Common.{◌≡◌, ◌<◌, ◌≤◌, ◌⊎◌, inl, inr, ℕ, zero, suc, ◌+◌, ◌%◌, List, [], ◌∷◌, ◌++◌, Some, map, length, drop, get_or, refl, sym, ap, ◌∙◌, arith, add-one}
use Rattle.std.specs.Prelude.{slice_get, slice_index}
use Rattle.std.proofs.Math.Seq.{drop-cons}
use Rattle.std.proofs.lemmas.List.{append-nil}
use Rattle.std.proofs.Math.ListN.{drop_of_length-le}
use Rattle.std.proofs.Common.{append_assoc}
use Rattle.std.proofs.lemmas.Option.{slice_get_within}
use Rattle.im_store.specs.Objects.{Name, Named, Slot, Link, Shape, shape_of}
use Rattle.im_store.specs.Statics.{static_shapes}
use Rattle.im_block.specs.declared.unit.Static.{Static as StaticOf}
use Rattle.im_block.specs.Meaning.{static_of, statics_of}
use Rattle.im_frame.specs.Layout.{room, rooms, places_from}
use Rattle.im_frame.proofs.Places.{lies, apart}
use Rattle.im_select_addresses.specs.Statics.{objects_of, StaticsLaw}

-- a static by its number
pub record There (ss : List StaticOf) (n : ℕ) (sh : Shape) : Type 0 where
  pub static : StaticOf
  pub is : slice_get ss n ≡ Some static
  pub size : sh.size ≡ static.object.size

there : (ss : List StaticOf) (n : ℕ) (sh : Shape) → static_shapes (map {A = StaticOf} static_of ss) (Named n) ≡ Some sh → There ss n sh
there [] n sh e = absurd cc
there (s ∷ ss) zero sh e = record { static = s; is = refl; size = (let q : shape_of s.object.size s.object.cells.items ≡ sh = cc in ap (λ (z : Shape). z.size) (sym q)) }
there (s ∷ ss) (suc n) sh e = let r = there ss n sh e in record { static = r.static; is = r.is; size = r.size }

object_is : (ss : List StaticOf) (n : ℕ) (s : StaticOf) → slice_get ss n ≡ Some s → slice_get (objects_of ss) n ≡ Some s.object
object_is [] n s e = absurd cc
object_is (x ∷ ss) zero s e = let q : x ≡ s = cc in ap (λ (z : StaticOf). Some z.object) q
object_is (x ∷ ss) (suc n) s e = object_is ss n s e

size_is : (ss : List StaticOf) (n : ℕ) (s : StaticOf) → slice_get ss n ≡ Some s → slice_index (map (λ (x : StaticOf). x.object.size) ss) n ≡ s.object.size
size_is [] n s e = absurd cc
size_is (x ∷ ss) zero s e = let q : x ≡ s = cc in ap (λ (z : StaticOf). z.object.size) q
size_is (x ∷ ss) (suc n) s e = size_is ss n s e

three_ways : (i j : ℕ) → (i ≡ j) ⊎ (i < j) ⊎ (j < i)
three_ways i j = grind arith

pub laid : StaticsLaw
laid u p few at size = record {
  from = from;
  inside = inside;
  even = even;
  sized = sized;
  apart = parts;
}
  where
    from : (a : Name) (sh : Shape) → static_shapes (statics_of u) a ≡ Some sh → 1048576 ≤ p.at a
    from (Named n) sh h = let t = there u.statics.items n sh h in let l = (lies 1048576 (objects_of u.statics.items) n t.static.object (object_is u.statics.items n t.static t.is)).low in let e = at n (slice_get_within u.statics.items n t.static t.is) in omega arith
    from (Slot n) sh h = absurd cc
    from Link sh h = absurd cc

    inside : (a : Name) (sh : Shape) → static_shapes (statics_of u) a ≡ Some sh → p.at a + sh.size < 2097152
    inside (Named n) sh h = let t = there u.statics.items n sh h in let l = (lies 1048576 (objects_of u.statics.items) n t.static.object (object_is u.statics.items n t.static t.is)).high in let e = at n (slice_get_within u.statics.items n t.static t.is) in let s = t.size in omega arith
    inside (Slot n) sh h = absurd cc
    inside Link sh h = absurd cc

    even : (a : Name) (sh : Shape) → static_shapes (statics_of u) a ≡ Some sh → p.at a % 4 ≡ 0
    even (Named n) sh h = let t = there u.statics.items n sh h in let l = (lies 1048576 (objects_of u.statics.items) n t.static.object (object_is u.statics.items n t.static t.is)).even in let e = at n (slice_get_within u.statics.items n t.static t.is) in omega arith
    even (Slot n) sh h = absurd cc
    even Link sh h = absurd cc

    sized : (a : Name) (sh : Shape) → static_shapes (statics_of u) a ≡ Some sh → p.size a ≡ sh.size
    sized (Named n) sh h = let t = there u.statics.items n sh h in size n (slice_get_within u.statics.items n t.static t.is) ∙ size_is u.statics.items n t.static t.is ∙ sym t.size
    sized (Slot n) sh h = absurd cc
    sized Link sh h = absurd cc

    parts : (a : Name) (sh : Shape) (b : Name) (th : Shape) → static_shapes (statics_of u) a ≡ Some sh → static_shapes (statics_of u) b ≡ Some th → (a ≡ b) ⊎ (p.at a + sh.size < p.at b) ⊎ (p.at b + th.size < p.at a)
    parts (Named n) sh (Named m) th h k =
        let t = there u.statics.items n sh h in
        let r = there u.statics.items m th k in
        let os = objects_of u.statics.items in
        let x = object_is u.statics.items n t.static t.is in
        let y = object_is u.statics.items m r.static r.is in
        let e = at n (slice_get_within u.statics.items n t.static t.is) in
        let g = at m (slice_get_within u.statics.items m r.static r.is) in
        let s = t.size in
        let z = r.size in
        elim (three_ways n m) [
          | inl i ↦ inl (ap Named i)
          | inr (inl i) ↦ inr (inl (let q = apart 1048576 os n m t.static.object r.static.object x y i in omega arith))
          | inr (inr i) ↦ inr (inr (let q = apart 1048576 os m n r.static.object t.static.object y x i in omega arith))
        ]
    parts (Named n) sh (Slot m) th h k = absurd cc
    parts (Named n) sh Link th h k = absurd cc
    parts (Slot n) sh b th h k = absurd cc
    parts Link sh b th h k = absurd cc

-- ---- a step of the loop

step : (ss : List StaticOf) (i : ℕ) (s : StaticOf) → i < length ss → s ≡ get_or ss i s → objects_of (drop i ss) ≡ s.object ∷ objects_of (drop (i + 1) ss)
step ss i s h e = ap objects_of (drop-cons ss i s h) ∙ ap (λ (z : StaticOf). z.object ∷ objects_of (drop (suc i) ss)) (sym e) ∙ ap (λ z. s.object ∷ objects_of (drop z ss)) (sym (add-one i))

pub rooms_on : (ss : List StaticOf) (i : ℕ) (s : StaticOf) → i < length ss → s ≡ get_or ss i s → rooms (objects_of (drop i ss)) ≡ room s.object.size + rooms (objects_of (drop (i + 1) ss))
rooms_on ss i s h e = ap rooms (step ss i s h e)

pub places_on : (done : List ℕ) (next : ℕ) (ss : List StaticOf) (i : ℕ) (s : StaticOf) → i < length ss → s ≡ get_or ss i s → (done ++ next ∷ []) ++ places_from (next + room s.object.size) (objects_of (drop (i + 1) ss)) ≡ done ++ places_from next (objects_of (drop i ss))
places_on done next ss i s h e =
    append_assoc done (next ∷ []) (places_from (next + room s.object.size) (objects_of (drop (i + 1) ss)))
    ∙ ap (λ z. done ++ places_from next z) (sym (step ss i s h e))

pub places_end : (done : List ℕ) (next : ℕ) (ss : List StaticOf) (i : ℕ) → length ss ≤ i → done ≡ done ++ places_from next (objects_of (drop i ss))
places_end done next ss i h = sym (ap (λ z. done ++ places_from next (objects_of z)) (drop_of_length-le ss h) ∙ append-nil done)
