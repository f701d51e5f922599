-- No object reaches far behind where it lies.
use Rattle.std.proofs.Common.{◌≡◌, ◌<◌, ◌≤◌, ℕ, zero, suc, ◌+◌, ◌-◌, ◌^◌, Bool, true, false, List, [], ◌∷◌, ◌++◌, Option, Some, None, map, length, refl, sym, ap, ◌∙◌, arith}
use Rattle.std.specs.Prelude.{slice_get, slice_index, if◌then◌else◌, nat_le}
use Rattle.std.proofs.lemmas.Bool.Decides.{nat_tests}
use Rattle.std.proofs.lemmas.List.{length-map}
use Rattle.im_store.specs.Objects.{Named, Shape, shape_of}
use Rattle.im_block.specs.declared.unit.Object.{Object}
use Rattle.im_block.specs.declared.unit.Function.{Function}
use Rattle.im_block.specs.Meaning.{shapes_of, shape_at}
use Rattle.im_frame.specs.declared.layout.Layout.{Layout}
use Rattle.im_frame.specs.Layout.{IsLayout, place_of}
use Rattle.im_select_addresses.specs.Addresses.{joined, places_of, sizes_of}

-- places and sizes, number by number
abbrev pub AreNear : List ℕ → List ℕ → Type 0
AreNear places sizes = (k : ℕ) → slice_index places k + slice_index sizes k < 2 ^ 31

past : (xs : List ℕ) (k : ℕ) → length xs ≤ k → slice_index xs k ≡ 0
past [] k h = refl
past (x ∷ xs) zero h = absurd (omega arith)
past (x ∷ xs) (suc k) h = past xs k (omega arith)

-- within the lists is enough
pub near_within : (places sizes : List ℕ) → length sizes ≡ length places → ((k : ℕ) → k < length places → slice_index places k + slice_index sizes k < 2 ^ 31) → AreNear places sizes
near_within [] [] e h k = omega arith
near_within [] (s ∷ sizes) e h k = absurd (omega arith)
near_within (p ∷ places) [] e h k = absurd (omega arith)
near_within (p ∷ places) (s ∷ sizes) e h zero = h 0 (omega arith)
near_within (p ∷ places) (s ∷ sizes) e h (suc k) = near_within places sizes (omega arith) (λ j l. h (suc j) (omega arith)) k

pub near_both : (xs ys vs ws : List ℕ) → length ys ≡ length xs → AreNear xs ys → AreNear vs ws → AreNear (xs ++ vs) (ys ++ ws)
near_both [] [] vs ws e h g k = g k
near_both [] (y ∷ ys) vs ws e h g k = absurd (omega arith)
near_both (x ∷ xs) [] vs ws e h g k = absurd (omega arith)
near_both (x ∷ xs) (y ∷ ys) vs ws e h g zero = h 0
near_both (x ∷ xs) (y ∷ ys) vs ws e h g (suc k) = near_both xs ys vs ws (omega arith) (λ j. h (suc j)) g k

-- the objects of one frame

object_at : (os : List Object) (k : ℕ) → k < length os → (o : Object) × (slice_get os k ≡ Some o) × (slice_index (map (λ (x : Object). x.size) os) k ≡ o.size)
object_at [] k h = absurd (omega arith)
object_at (o ∷ os) zero h = (o, refl, refl)
object_at (o ∷ os) (suc k) h = object_at os k (omega arith)

own_shape : (f : Function) (k : ℕ) (o : Object) → slice_get f.objects.items k ≡ Some o → shapes_of f (Named (f.first_object + k)) ≡ Some (shape_of o.size o.cells.items)
own_shape f k o e =
    from (nat_le f.first_object (f.first_object + k)) (later f.first_object k)
    ∙ ap (λ n. shape_at (slice_get f.objects.items n)) (let q : f.first_object + k - f.first_object ≡ k = omega arith in q)
    ∙ ap shape_at e
  where
    later : (n k : ℕ) → nat_le n (n + k) ≡ true
    later n k = grind (arith, nat_tests)

    from : (b : Bool) → b ≡ true → (if b then shape_at (slice_get f.objects.items (f.first_object + k - f.first_object)) else None) ≡ shape_at (slice_get f.objects.items (f.first_object + k - f.first_object))
    from true e = refl
    from false e = cc

near_frame : (f : Function) (l : Layout) → IsLayout f l → AreNear (places_of l) (sizes_of f)
near_frame f l is = near_within (places_of l) (sizes_of f) (length-map f.objects.items (λ (o : Object). o.size) ∙ sym is.count) within
  where
    within : (k : ℕ) → k < length (places_of l) → slice_index (places_of l) k + slice_index (sizes_of f) k < 2 ^ 31
    within k h =
        let count = is.count in
        let o = object_at f.objects.items k (omega arith) in
        let inside = is.inside (Named (f.first_object + k)) (shape_of o.0.size o.0.cells.items) (own_shape f k o.0 o.1) in
        let small = is.small in
        let place : place_of f l (Named (f.first_object + k)) ≡ slice_index (places_of l) k = ap (slice_index l.places.items) (let q : f.first_object + k - f.first_object ≡ k = omega arith in q) in
        let size = o.2 in
        omega arith

-- the objects of all frames
pub near_frames : (functions : List Function) (layouts : List Layout) → length layouts ≡ length functions → ((i : ℕ) (f : Function) (l : Layout) → slice_get functions i ≡ Some f → slice_get layouts i ≡ Some l → IsLayout f l)
    → AreNear (joined places_of layouts) (joined sizes_of functions)
near_frames [] [] e each k = omega arith
near_frames [] (l ∷ layouts) e each k = absurd (omega arith)
near_frames (f ∷ functions) [] e each k = absurd (omega arith)
near_frames (f ∷ functions) (l ∷ layouts) e each k =
    let is = each 0 f l refl refl in
    near_both (places_of l) (sizes_of f) (joined places_of layouts) (joined sizes_of functions) (length-map f.objects.items (λ (o : Object). o.size) ∙ sym is.count) (near_frame f l is)
    (near_frames functions layouts (omega arith) (λ i g m x y. each (suc i) g m x y)) k
