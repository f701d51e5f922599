-- The objects of statics.
use Rattle.std.proofs.Common.{◌≡◌, ◌<◌, ◌≤◌, ℕ, zero, suc, ◌+◌, ◌*◌, ◌%◌, ◌^◌, true, List, [], ◌∷◌, Some, length, refl, sym, ap, ◌∙◌, subst, arith}
use Rattle.std.specs.Prelude.{slice_get, slice_index}
use Rattle.std.proofs.lemmas.Bool.{le-leb, and_from}
use Rattle.im_image.specs.Contents.{ObjectValue, IsObject, AreObjects, is_object_place}
use Rattle.im_ctype.specs.declared.cell.Cell.{Cell}
use Rattle.im_block.specs.declared.unit.Object.{Object}
use Rattle.im_block.specs.declared.unit.Static.{Static as StaticOf}
use Rattle.im_block.specs.Wellformed.{HasCells}
use Rattle.im_frame.specs.Layout.{room, rooms, places_from}
use Rattle.im_select_addresses.specs.Statics.{objects_of}
use Rattle.im_pack.specs.Packed.{IsObjectOf, AreObjectsOf}
use Rattle.im_pack.specs.Objects.{object_of, objects_at, runs_of, AreNamed}
use Rattle.im_pack.proofs.Cells.{cells_from, some_bytes}
use Rattle.im_pack.proofs.Joined.{all_cells, some_run, are_runs}
use Rattle.im_pack.proofs.Statics.{AllHave}

pub count_objects : (statics : List StaticOf) (addresses : List ℕ) → length addresses ≡ length statics → length (objects_at statics addresses) ≡ length statics
count_objects [] addresses h = refl
count_objects (s ∷ statics) [] h = absurd (omega arith)
count_objects (s ∷ statics) (a ∷ addresses) h = ap suc (count_objects statics addresses (omega arith))

each_object : (statics : List StaticOf) (addresses : List ℕ) (n : ℕ) (s : StaticOf) (o : ObjectValue) → slice_get statics n ≡ Some s → slice_get (objects_at statics addresses) n ≡ Some o → object_of (slice_index addresses n) s ≡ o
each_object [] addresses n s o e g = absurd cc
each_object (t ∷ statics) [] n s o e g = absurd cc
each_object (t ∷ statics) (a ∷ addresses) zero s o e g = let q : t ≡ s = cc in let r : object_of a t ≡ o = cc in ap (object_of a) (sym q) ∙ r
each_object (t ∷ statics) (a ∷ addresses) (suc n) s o e g = each_object statics addresses n s o e g

pub objects_are : (statics : List StaticOf) (addresses : List ℕ) → length addresses ≡ length statics → AreObjectsOf statics addresses (objects_at statics addresses)
objects_are statics addresses h = record {
  count = count_objects statics addresses h;
  each = λ n s o e g. subst (IsObjectOf (slice_index addresses n) s) (each_object statics addresses n s o e g) (is_object (slice_index addresses n) s);
}
  where
    is_object : (at : ℕ) (s : StaticOf) → IsObjectOf at s (object_of at s)
    is_object at s = record { at_is = refl; size = refl; name = refl; cells = all_cells s.object.cells.items }

some_size : (o : Object) → HasCells o → 0 < length o.cells.items → 0 < o.size
some_size o h some = by o.cells.items refl
  where
    by : (cs : List Cell) → o.cells.items ≡ cs → 0 < o.size
    by [] e = absurd (let l : length o.cells.items ≡ 0 = ap length e in omega arith)
    by (c ∷ cs) e =
        let i = h.inside 0 c (ap (λ z. slice_get z 0) e) in
        let b = some_bytes c.kind in
        omega arith

pub many_rooms : (os : List Object) → 4 * length os ≤ rooms os
many_rooms [] = omega arith
many_rooms (o ∷ os) = let r = many_rooms os in omega arith

pub even_rooms : (os : List Object) → rooms os % 4 ≡ 0
even_rooms [] = refl
even_rooms (o ∷ os) = let e = even_rooms os in omega arith

in_place : (total least at size name runs : ℕ) → 1 ≤ size → least ≤ at → at + size ≤ 1048576 + total → 1 ≤ name → 1 ≤ runs → is_object_place total least at size name runs ≡ true
in_place total least at size name runs a b c d e =
    and_from _ _ (and_from _ _ (and_from _ _ (and_from _ _ (le-leb _ _ a) (le-leb _ _ b)) (le-leb _ _ c)) (le-leb _ _ d)) (le-leb _ _ e)

pub rules : (total least start : ℕ) (statics : List StaticOf) → least ≤ start → start % 4 ≡ 0 → start + rooms (objects_of statics) ≤ 1048576 + total → AllHave statics → AreNamed statics
    → AreObjects total least (objects_at statics (places_from start (objects_of statics)))
rules total least start [] low even fits have named = tt
rules total least start (s ∷ statics) low even fits have named =
    let h = (have 0 s refl).cells in
    let n = named.each 0 s refl in
    let size = some_size s.object h n.cell in
    let runs = some_run s.object.cells.items n.cell in
    let some = n.some in
    let first : IsObject total least (object_of start s) = record {
      place = in_place total least start s.object.size (length s.name.items) (length (runs_of s.object.cells.items)) (omega arith) low (omega arith) (omega arith) (omega arith);
      name_length = n.short;
      name = n.bytes;
      runs = are_runs start s.object.size even s.object.cells.items (cells_from s.object h) h.inside h.even;
    } in
    (first, rules total (start + s.object.size + 1) (start + room s.object.size) statics (omega arith) (omega arith) (omega arith) (λ m t e. have (suc m) t e) (record { each = λ m t e. named.each (suc m) t e }))
