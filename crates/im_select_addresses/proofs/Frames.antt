-- Objects of frames in the map of all objects.
use Rattle.std.proofs.Common.{◌≡◌, ◌≤◌, ℕ, zero, suc, ◌+◌, ◌-◌, Bool, true, false, List, [], ◌∷◌, Option, Some, None, length, map, take, refl, sym, ap, ◌∙◌, arith}
use Rattle.std.specs.Prelude.{nat_le, nat_lt, if◌then◌else◌, slice_get, slice_index}
use Rattle.std.proofs.lemmas.Bool.Decides.{nat_tests}
use Rattle.std.proofs.lemmas.Option.{get_or_from_slice_get, slice_get_within}
use Rattle.std.proofs.lemmas.List.{length-map}
use Rattle.im_store.specs.Objects.{Name, Named, Slot, Link, Shape, shape_of}
use Rattle.im_block.specs.declared.unit.Object.{Object}
use Rattle.im_block.specs.declared.unit.Static.{Static as StaticOf}
use Rattle.im_block.specs.declared.unit.Function.{Function}
use Rattle.im_block.specs.Meaning.{shapes_of, shape_at, slot_shape, link_shape}
use Rattle.im_block.specs.Shape.{sum_of}
use Rattle.im_frame.specs.declared.layout.Layout.{Layout}
use Rattle.im_frame.specs.Layout.{place_of}
use Rattle.im_select_addresses.specs.Addresses.{joined, places_of, sizes_of, FramesLaw}
use Rattle.im_select_addresses.proofs.Joined.{index_right, joined_at, counts}

-- an object of the program in the function
pub record There (f : Function) (n : ℕ) (sh : Shape) : Type 0 where
  pub from : f.first_object ≤ n
  pub object : Object
  pub is : slice_get f.objects.items (n - f.first_object) ≡ Some object
  pub size : object.size ≡ sh.size

there : (f : Function) (n : ℕ) (sh : Shape) → shapes_of f (Named n) ≡ Some sh → There f n sh
there f n sh e = by (nat_le f.first_object n) refl e
  where
    at : (o : Option Object) → shape_at o ≡ Some sh → (x : Object) × (o ≡ Some x) × (x.size ≡ sh.size)
    at None k = absurd cc
    at (Some x) k = (x, refl, ap (λ (z : Shape). z.size) (let q : shape_of x.size x.cells.items ≡ sh = cc in q))

    by : (b : Bool) → nat_le f.first_object n ≡ b → (if b then shape_at (slice_get f.objects.items (n - f.first_object)) else None) ≡ Some sh → There f n sh
    by true t k = let r = at (slice_get f.objects.items (n - f.first_object)) k in record { from = grind (arith, nat_tests); object = r.0; is = r.1; size = r.2 }
    by false t k = absurd cc

slot_size : (f : Function) (n : ℕ) (sh : Shape) → shapes_of f (Slot n) ≡ Some sh → sh.size ≡ 4
slot_size f n sh e = by (nat_lt n f.slots) e
  where
    by : (b : Bool) → (if b then Some slot_shape else None) ≡ Some sh → sh.size ≡ 4
    by true k = let q : slot_shape ≡ sh = cc in ap (λ (z : Shape). z.size) (sym q)
    by false k = absurd cc

link_size : (sh : Shape) → Some link_shape ≡ Some sh → sh.size ≡ 4
link_size sh k = let q : link_shape ≡ sh = cc in ap (λ (z : Shape). z.size) (sym q)

size_in : (os : List Object) (k : ℕ) (o : Object) → slice_get os k ≡ Some o → slice_index (map (λ (x : Object). x.size) os) k ≡ o.size
size_in os k o e = get_or_from_slice_get (map (λ (x : Object). x.size) os) k o.size 0 (sizes os k e)
  where
    sizes : (os : List Object) (k : ℕ) → slice_get os k ≡ Some o → slice_get (map (λ (x : Object). x.size) os) k ≡ Some o.size
    sizes [] k g = absurd cc
    sizes (x ∷ xs) zero g = let same : x ≡ o = cc in ap (λ (z : Object). Some z.size) same
    sizes (x ∷ xs) (suc k) g = sizes xs k g

sums : (xs : List Function) → sum_of (λ (m : Function). length (sizes_of m)) xs ≡ sum_of (λ (m : Function). length m.objects.items) xs
sums [] = refl
sums (x ∷ xs) = let a = length-map x.objects.items (λ (o : Object). o.size) in let r = sums xs in omega arith

pub frames : FramesLaw
frames u statics layouts p well same_count layouts_are at size i f l e g = record { at = place; size = bytes }
  where
    place : (a : Name) (sh : Shape) → shapes_of f a ≡ Some sh → p.at a ≡ place_of f l a
    place (Named n) sh h =
        let t = there f n sh h in
        let from = t.from in
        let k : ℕ = n - f.first_object in
        let within = slice_get_within f.objects.items k t.object t.is in
        let layout = layouts_are.each i f l e g in
        let count = layout.count in
        let numbered = well.numbered i f e in
        let sums = counts u.functions.items layouts i layouts_are.count (λ j h m x y. (layouts_are.each j h m x y).count) in
        let rest : ℕ = sum_of (λ (m : Layout). length (places_of m)) (take i layouts) + k in
        at (Named n) ∙ index_right statics (joined places_of layouts) n rest (omega arith) ∙ joined_at places_of layouts i k rest l g (omega arith) refl
    place (Slot n) sh h = at (Slot n)
    place Link sh h = at Link

    bytes : (a : Name) (sh : Shape) → shapes_of f a ≡ Some sh → p.size a ≡ sh.size
    bytes (Named n) sh h =
        let t = there f n sh h in
        let from = t.from in
        let k : ℕ = n - f.first_object in
        let within = slice_get_within f.objects.items k t.object t.is in
        let numbered = well.numbered i f e in
        let rest : ℕ = sum_of (λ (m : Function). length (sizes_of m)) (take i u.functions.items) + k in
        let many = length-map u.statics.items (λ (s : StaticOf). s.object.size) in
        let own = length-map f.objects.items (λ (o : Object). o.size) in
        let all : sum_of (λ (m : Function). length (sizes_of m)) (take i u.functions.items) ≡ sum_of (λ (m : Function). length m.objects.items) (take i u.functions.items) = sums (take i u.functions.items) in
        size (Named n) ∙ index_right (map (λ (s : StaticOf). s.object.size) u.statics.items) (joined sizes_of u.functions.items) n rest (omega arith) ∙ joined_at sizes_of u.functions.items i k rest f e (omega arith) refl ∙ size_in f.objects.items k t.object t.is ∙ t.size
    bytes (Slot n) sh h = size (Slot n) ∙ sym (slot_size f n sh h)
    bytes Link sh h = size Link ∙ sym (link_size sh h)
