-- Where values point to, by a closed points-to assignment: what each line's value, read and write make of it.
use Rattle.std.proofs.Common.{◌≡◌, ℕ, zero, suc, ◌+◌, ◌<◌, ◌≤◌, List, [], ◌∷◌, Bool, true, false, Option, Some, None, refl, sym, ap, ◌∙◌, subst, arith}
use Rattle.std.specs.Prelude.{slice_get, map, ℤ, pos, negsuc, ◌==◌, ◌&&◌, if◌then◌else◌}
use Rattle.std.proofs.lemmas.Bool.{eqb-true, lt-ltb, le-ltb}
use Rattle.im_num.specs.declared.kind.Kind.{Kind}
use Rattle.im_num.specs.declared.kind.Kind.TheVariants.{Ptr}
use Rattle.im_num.specs.Kinds.{wrap}
use Rattle.im_ctype.specs.declared.cell.Cell.{Cell}
use Rattle.im_store.specs.declared.undefined.Undefined.{Undefined}
use Rattle.im_store.specs.declared.undefined.Undefined.TheVariants.{NoSuchCell, OutsideObject, MissingResult, DeadPointerRead}
use Rattle.im_store.specs.Checks.{Checked, Fine, Bad, then_, unless}
use Rattle.im_store.specs.Objects.{Name, Named, Slot, Link, Object, static, Value, Number, Null, Pointer, Unset, Store, same_name, same_object, same_kind, lives}
use Rattle.im_store.specs.Statics.{value_at, first_value}
use Rattle.im_store.specs.Access.{stands, taken, read_cell, write_cell, with_value}
use Rattle.im_store.specs.Pointers.{reaches, within, moved_by, member_at, bytes_moved}
use Rattle.im_block.specs.declared.access.Tag.{Tag}
use Rattle.im_block.specs.declared.access.Tag.TheVariants.{Direct, Through as Among}
use Rattle.im_block.specs.declared.code.Place.{Place}
use Rattle.im_block.specs.declared.code.Place.TheVariants.{Static, Local, Through}
use Rattle.im_block.specs.declared.unit.Constant.{Constant}
use Rattle.im_block.specs.declared.unit.Constant.TheVariants.{Number as Fixed, Null as Nowhere, Inside}
use Rattle.im_block.specs.declared.unit.Static.{Static as StaticOf}
use Rattle.im_block.specs.Meaning.{Active, object_of, Location, Found, Left, location_of, located, further, place_of, read_place, write_place, stored, moved, number_of, as_number, as_truth, constant, static_of}
use Rattle.im_block.specs.Sections.{Has}
use Rattle.im_block.specs.Tagged.{object_at, Reaches, reach_of_tag}
use Rattle.im_block_laws.specs.PointsTo.{Points, PlaceHas, TagFits, ConstantIn, ConstantsIn}

-- a value that points to an object points to one of those
abbrev pub ValueIn : (ℕ → Type 0) → Value → Type 0
ValueIn P (Number z) = Unit {0}
ValueIn P Null = Unit {0}
ValueIn P (Pointer o i) = (n : ℕ) × (o.name ≡ Named n) × P n
ValueIn P Unset = Unit {0}

pub value_sub : (P Q : ℕ → Type 0) (v : Value) → ((n : ℕ) → P n → Q n) → ValueIn P v → ValueIn Q v
value_sub P Q (Number z) f h = tt
value_sub P Q Null f h = tt
value_sub P Q (Pointer o i) f h = (h.0, h.1, f h.0 h.2)
value_sub P Q Unset f h = tt

pub value_either : (P : ℕ → Type 0) (b : Bool) (x y : Value) → (b ≡ true → ValueIn P x) → ValueIn P y → ValueIn P (if b then x else y)
value_either P true x y p q = p refl
value_either P false x y p q = q

-- what a check gave
fine_then : {A B : Type 0} (c : Checked A) (next : A → Checked B) (b : B) → then_ c next ≡ Fine b → (a : A) × (c ≡ Fine a) × (next a ≡ Fine b)
fine_then (Fine a) next b e = (a, refl, e)
fine_then (Bad why) next b e = cc

fine_if : {A : Type 0} (test : Bool) (c : Checked A) (why : Undefined) (a : A) → (if test then c else Bad why) ≡ Fine a → (test ≡ true) × (c ≡ Fine a)
fine_if true c why a e = (refl, e)
fine_if false c why a e = cc

fine_unless : {A : Type 0} (test : Bool) (x : A) (why : Undefined) (a : A) → unless test x why ≡ Fine a → x ≡ a
fine_unless true x why a e = cc
fine_unless false x why a e = cc

fine_is : {A : Type 0} (a b : A) → Fine a ≡ Fine b → a ≡ b
fine_is a b e = cc

pub number_in : (P : ℕ → Type 0) (c : Checked ℤ) (v : Value) → as_number c ≡ Fine v → ValueIn P v
number_in P (Fine z) v e = subst (ValueIn P) (fine_is (Number z) v e) tt
number_in P (Bad why) v e = cc

pub truth_in : (P : ℕ → Type 0) (c : Checked Bool) (v : Value) → as_truth c ≡ Fine v → ValueIn P v
truth_in P (Fine b) v e = subst (ValueIn P) (fine_is (Number (if b then pos 1 else pos 0)) v e) tt
truth_in P (Bad why) v e = cc

within_in : (P : ℕ → Type 0) (store : Store) (o : Object) (z : ℤ) (v : Value) → (n : ℕ) → o.name ≡ Named n → P n → within store o z ≡ Fine v → ValueIn P v
within_in P store o (negsuc k) v n is h e = cc
within_in P store o (pos offset) v n is h e =
    subst (ValueIn P) (fine_unless (reaches (store.shape o) offset) (Pointer o offset) OutsideObject v e) (n, is, h)

moved_by_in : (P : ℕ → Type 0) (store : Store) (d : ℤ) (p v : Value) → ValueIn P p → moved_by store d p ≡ Fine v → ValueIn P v
moved_by_in P store d (Pointer o offset) v h e = within_in P store o _ v h.0 h.1 h.2 e
moved_by_in P store d (Number z) v h e = cc
moved_by_in P store d Null v h e = cc
moved_by_in P store d Unset v h e = cc

pub moved_in : (P : ℕ → Type 0) (store : Store) (size : ℕ) (back : Bool) (p by v : Value) → ValueIn P p → moved store size back p by ≡ Fine v → ValueIn P v
moved_in P store size back p by v h e =
    let a = fine_then (number_of by) (λ z. moved_by store (bytes_moved size back z) p) v e in
    moved_by_in P store (bytes_moved size back a.0) p v h a.2

member_in : (P : ℕ → Type 0) (store : Store) (d : ℕ) (p v : Value) → ValueIn P p → member_at store d p ≡ Fine v → ValueIn P v
member_in P store d (Pointer o offset) v h e = within_in P store o (pos (offset + d)) v h.0 h.1 h.2 e
member_in P store d (Number z) v h e = cc
member_in P store d Null v h e = cc
member_in P store d Unset v h e = cc

further_in : (P : ℕ → Type 0) (store : Store) (offset : ℕ) (p v : Value) → ValueIn P p → further store offset p ≡ Fine v → ValueIn P v
further_in P store zero p v h e = subst (ValueIn P) (fine_is p v e) h
further_in P store (suc d) p v h e = member_in P store (suc d) p v h e

module _ (points : Points) where
  -- the registers of the i-th function
  abbrev pub RegistersIn : ℕ → (ℕ → Value) → Type 0
  RegistersIn i registers = (r : ℕ) → ValueIn (Has (points.register i r)) (registers r)

  -- the cells of each object
  pub record StoreIn (store : Store) : Type 0 where
    pub each : (o : Object) (m : ℕ) → o.name ≡ Named m → (offset : ℕ) → ValueIn (Has (points.object m)) (store.values o offset)

  pub place_in : (i : ℕ) (place : Place) (by : Active) (registers : ℕ → Value) (store : Store) (v : Value) → RegistersIn i registers → place_of place by registers store ≡ Fine v → ValueIn (PlaceHas points i place) v
  place_in i (Static object offset) by registers store v h e = further_in (PlaceHas points i (Static object offset)) store offset (Pointer (static object) 0) v (object, refl, refl) e
  place_in i (Local object offset) by registers store v h e = further_in (PlaceHas points i (Local object offset)) store offset (Pointer (object_of by (Named object)) 0) v (object, refl, refl) e
  place_in i (Through pointer offset) by registers store v h e = further_in (PlaceHas points i (Through pointer offset)) store offset (registers pointer) v (h pointer) e

  location_in : (P : ℕ → Type 0) (v : Value) (at : Location) → ValueIn P v → location_of v ≡ Fine at → (n : ℕ) × (at.object.name ≡ Named n) × P n
  location_in P (Pointer o i) at h e =
      let same : record { object = o; offset = i } ≡ at = fine_is (record { object = o; offset = i }) at e in
      (h.0, ap (λ (l : Location). l.object.name) (sym same) ∙ h.1, h.2)
  location_in P (Number z) at h e = cc
  location_in P Null at h e = cc
  location_in P Unset at h e = cc

  pub located_in : (i : ℕ) (place : Place) (by : Active) (registers : ℕ → Value) (store : Store) (at : Location) → RegistersIn i registers → located place by registers store ≡ Fine at → (n : ℕ) × (at.object.name ≡ Named n) × PlaceHas points i place n
  located_in i place by registers store at h e =
      let a = fine_then (place_of place by registers store) location_of at e in
      location_in (PlaceHas points i place) a.0 at (place_in i place by registers store a.0 h a.1) a.2

-- a place in a named object is there exactly
further_is : (store : Store) (o : Object) (offset : ℕ) (v : Value) → further store offset (Pointer o 0) ≡ Fine v → Pointer o offset ≡ v
further_is store o zero v e = fine_is (Pointer o 0) v e
further_is store o (suc d) v e =
    let same : 0 + suc d ≡ suc d = omega arith in
    ap (Pointer o) (sym same) ∙ fine_unless (reaches (store.shape o) (0 + suc d)) (Pointer o (0 + suc d)) OutsideObject v e

pub record LiesAt (o : Object) (offset : ℕ) (at : Location) : Type 0 where
  pub object : at.object ≡ o
  pub offset_is : at.offset ≡ offset

location_at : (o : Object) (offset : ℕ) (v : Value) (at : Location) → Pointer o offset ≡ v → location_of v ≡ Fine at → LiesAt o offset at
location_at o offset v at is e =
    let here : location_of (Pointer o offset) ≡ Fine at = ap location_of is ∙ e in
    let same = fine_is (record { object = o; offset = offset }) at here in
    record { object = ap (λ (l : Location). l.object) (sym same); offset_is = ap (λ (l : Location). l.offset) (sym same) }

lies_at : (store : Store) (o : Object) (offset : ℕ) (at : Location) → then_ (further store offset (Pointer o 0)) location_of ≡ Fine at → LiesAt o offset at
lies_at store o offset at e =
    let a = fine_then (further store offset (Pointer o 0)) location_of at e in
    location_at o offset a.0 at (further_is store o offset a.0 a.1) a.2

object_static : (statics : ℕ) (by : Active) (n : ℕ) → n < statics → object_at statics by n ≡ static n
object_static statics by n lt = ap (λ b. if b then static n else object_of by (Named n)) (lt-ltb n statics lt)

object_local : (statics : ℕ) (by : Active) (n : ℕ) → statics ≤ n → object_at statics by n ≡ object_of by (Named n)
object_local statics by n le = ap (λ b. if b then static n else object_of by (Named n)) (le-ltb n statics le)

-- an access is within its tag
pub holds_at : (points : Points) (statics i : ℕ) (place : Place) (tag : Option Tag) (by : Active) (registers : ℕ → Value) (store : Store) (at : Location) → TagFits points statics i place tag → RegistersIn points i registers → located place by registers store ≡ Fine at → Reaches statics (reach_of_tag tag) by at.object at.offset
holds_at points statics i place None by registers store at fits h e = tt
holds_at points statics i (Static object offset) (Some (Direct o d)) by registers store at fits h e =
    let l = lies_at store (static object) offset at e in
    (l.object ∙ sym (object_static statics by object fits.0) ∙ ap (object_at statics by) (sym fits.1), l.offset_is ∙ sym fits.2)
holds_at points statics i (Local object offset) (Some (Direct o d)) by registers store at fits h e =
    let l = lies_at store (object_of by (Named object)) offset at e in
    (l.object ∙ sym (object_local statics by object fits.0) ∙ ap (object_at statics by) (sym fits.1), l.offset_is ∙ sym fits.2)
holds_at points statics i (Through pointer offset) (Some (Direct o d)) by registers store at fits h e = absurd fits
holds_at points statics i place (Some (Among objects)) by registers store at fits h e =
    let l = located_in points i place by registers store at h e in
    (l.0, l.1, fits l.0 l.2)

-- reads

taken_is : (store : Store) (w v : Value) → taken store w ≡ Fine v → w ≡ v
taken_is store (Number z) v e = fine_is (Number z) v e
taken_is store Null v e = fine_is Null v e
taken_is store (Pointer o i) v e = fine_unless (lives store o) (Pointer o i) DeadPointerRead v e
taken_is store Unset v e = cc

pub record ReadIn (points : Points) (statics i : ℕ) (place : Place) (tag : Option Tag) (to : List ℕ) (by : Active) (f : Found) : Type 0 where
  pub holds : Reaches statics (reach_of_tag tag) by f.at.object f.at.offset
  pub value : ValueIn (Has to) f.value

pub read_in : (points : Points) (statics i : ℕ) (place : Place) (kind : Kind) (tag : Option Tag) (to : List ℕ) (by : Active) (registers : ℕ → Value) (store : Store) (f : Found) → ((n : ℕ) → PlaceHas points i place n → (m : ℕ) → Has (points.object n) m → Has to m) → TagFits points statics i place tag → RegistersIn points i registers → StoreIn points store → read_place place kind by registers store ≡ Fine f → ReadIn points statics i place tag to by f
read_in points statics i place kind tag to by registers store f sub fits h all e =
    let a = fine_then (located place by registers store) _ f e in
    let b = fine_then (read_cell store a.0.object a.0.offset kind) _ f a.2 in
    let found : record { at = a.0; value = b.0 } ≡ f = fine_is (record { at = a.0; value = b.0 }) f b.2 in
    let c = fine_if (stands store a.0.object a.0.offset kind) _ NoSuchCell b.0 b.1 in
    let value : store.values a.0.object a.0.offset ≡ b.0 = taken_is store _ b.0 c.1 in
    let l = located_in points i place by registers store a.0 h a.1 in
    let cell = subst (ValueIn (Has (points.object l.0))) value (all.each a.0.object l.0 l.1 a.0.offset) in
    subst (λ (x : Found). ReadIn points statics i place tag to by x) found (record {
      holds = holds_at points statics i place tag by registers store a.0 fits h a.1;
      value = value_sub (Has (points.object l.0)) (Has to) b.0 (sub l.0 l.2) cell;
    })

-- writes

stored_in : (P : ℕ → Type 0) (kind : Kind) (v t : Value) → ValueIn P v → stored kind v ≡ Fine t → ValueIn P t
stored_in P kind (Number z) t h e = subst (ValueIn P) (fine_unless _ (Number (wrap kind z)) MissingResult t e) tt
stored_in P kind Null t h e = subst (ValueIn P) (fine_unless (same_kind kind Ptr) Null MissingResult t e) tt
stored_in P kind (Pointer o i) t h e = subst (ValueIn P) (fine_unless (same_kind kind Ptr) (Pointer o i) MissingResult t e) h
stored_in P kind Unset t h e = cc

both : (x y : Bool) → (x && y) ≡ true → (x ≡ true) × (y ≡ true)
both true y e = (refl, e)
both false y e = cc

same_name_is : (a b : Name) → same_name a b ≡ true → a ≡ b
same_name_is (Named m) (Named n) e = ap Named (eqb-true m n e)
same_name_is (Slot m) (Slot n) e = ap Slot (eqb-true m n e)
same_name_is Link Link e = refl
same_name_is (Named m) (Slot n) e = cc
same_name_is (Named m) Link e = cc
same_name_is (Slot m) (Named n) e = cc
same_name_is (Slot m) Link e = cc
same_name_is Link (Named n) e = cc
same_name_is Link (Slot n) e = cc

with_value_in : (points : Points) (store : Store) (o : Object) (offset m : ℕ) (v : Value) → o.name ≡ Named m → ValueIn (Has (points.object m)) v → StoreIn points store → StoreIn points (record store { values = with_value store.values o offset v })
with_value_in points store o offset m v is h all = record {
  each = λ p k name i.
      value_either (Has (points.object k)) (same_object p o && i == offset) v (store.values p i)
      (λ e.
      let objects = (both (same_object p o) (i == offset) e).0 in
      let names = (both _ (same_name p.name o.name) objects).1 in
      let same : p.name ≡ o.name = same_name_is p.name o.name names in
      let number : Named m ≡ Named k = sym is ∙ sym same ∙ name in
      let one : m ≡ k = cc in
      subst (λ n. ValueIn (Has (points.object n)) v) one h)
      (all.each p k name i);
}

pub record WroteIn (points : Points) (statics : ℕ) (tag : Option Tag) (by : Active) (l : Left) : Type 0 where
  pub holds : Reaches statics (reach_of_tag tag) by l.at.object l.at.offset
  pub store : StoreIn points l.store

pub write_in : (points : Points) (statics i : ℕ) (place : Place) (kind : Kind) (tag : Option Tag) (from : List ℕ) (v : Value) (by : Active) (registers : ℕ → Value) (store : Store) (l : Left) → ((n : ℕ) → PlaceHas points i place n → (m : ℕ) → Has from m → Has (points.object n) m) → ValueIn (Has from) v → TagFits points statics i place tag → RegistersIn points i registers → StoreIn points store → write_place place kind v by registers store ≡ Fine l → WroteIn points statics tag by l
write_in points statics i place kind tag from v by registers store l sub h fits regs all e =
    let a = fine_then (located place by registers store) _ l e in
    let b = fine_then (stored kind v) _ l a.2 in
    let c = fine_then (write_cell store a.0.object a.0.offset kind b.0) _ l b.2 in
    let left : record { at = a.0; store = c.0 } ≡ l = fine_is (record { at = a.0; store = c.0 }) l c.2 in
    let after = fine_unless (stands store a.0.object a.0.offset kind) (record store { values = with_value store.values a.0.object a.0.offset b.0 }) NoSuchCell c.0 c.1 in
    let at = located_in points i place by registers store a.0 regs a.1 in
    let value = stored_in (Has (points.object at.0)) kind v b.0 (value_sub (Has from) (Has (points.object at.0)) v (sub at.0 at.2) h) b.1 in
    subst (λ (x : Left). WroteIn points statics tag by x) left (record {
      holds = holds_at points statics i place tag by registers store a.0 fits regs a.1;
      store = subst (StoreIn points) after (with_value_in points store a.0.object a.0.offset at.0 b.0 at.1 value all);
    })

-- the statics

constant_in : (set : List ℕ) (c : Constant) → ConstantIn set c → ValueIn (Has set) (constant c)
constant_in set (Fixed z) h = tt
constant_in set Nowhere h = tt
constant_in set (Inside object offset) h = (object, refl, h)

value_at_in : (set : List ℕ) (cells : List Cell) (cs : List Constant) (offset : ℕ) → ConstantsIn set cs → ValueIn (Has set) (value_at cells (map constant cs) offset)
value_at_in set [] cs offset h = tt
value_at_in set (cell ∷ cells) [] offset h = tt
value_at_in set (cell ∷ cells) (c ∷ cs) offset h =
    value_either (Has set) (cell.offset == offset) (constant c) (value_at cells (map constant cs) offset) (λ e. constant_in set c h.0) (value_at_in set cells cs offset h.1)

pub first_in : (set : List ℕ) (ss : List StaticOf) (n offset : ℕ) → ((s : StaticOf) → slice_get ss n ≡ Some s → ConstantsIn set s.values.items) → ValueIn (Has set) (first_value (slice_get (map {A = StaticOf} static_of ss) n) offset)
first_in set [] n offset h = tt
first_in set (s ∷ ss) zero offset h = value_at_in set s.object.cells.items s.values.items offset (h s refl)
first_in set (s ∷ ss) (suc n) offset h = first_in set ss n offset h
