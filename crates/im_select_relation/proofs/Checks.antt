-- What checks gave, where they gave something.
use Rattle.std.proofs.Common.{◌≡◌, ℕ, Bool, true, false, cond, Option, Some, None, sym, ap, ◌∙◌, subst, refl}
use Rattle.im_num.specs.declared.kind.Kind.{Kind}
use Rattle.im_store.specs.Checks.{Checked, Fine, Bad, then_, unless}
use Rattle.im_store.specs.Objects.{Object, Value, Number, Null, Pointer, Unset, Shape, Store, same_kind, is_there, lives}
use Rattle.im_store.specs.Access.{is_of_kind, has_cell, stands, taken, read_cell, write_cell, with_value}
use Rattle.im_num.specs.declared.kind.Kind.TheVariants.{U32}
use Rattle.im_store.proofs.Same.{same_kind-is}
use Rattle.im_block.specs.declared.code.Place.{Place}
use Rattle.im_store.specs.declared.undefined.Undefined.TheVariants.{DeadPointerRead, NoSuchCell}
use Rattle.im_block.specs.Meaning.{Active, found, stored, place_of, Location, location_of, located, Found, Left, read_place, write_place, read_slot, write_slot, slot_shape}
use Rattle.im_select_relation.specs.Linking.{Linking}
use Rattle.im_select_relation.proofs.Mapped.{Cell}
use Rattle.im_select_relation.proofs.Values.{unless_fine}

pub fine_is : {A : Type 0} (a b : A) → Fine a ≡ Fine b → a ≡ b
fine_is a b e = cc

-- the first gave something, and the next something of it
pub record Then {A B : Type 0} (x : Checked A) (next : A → Checked B) (b : B) : Type 0 where
  pub a : A
  pub first : x ≡ Fine a
  pub second : next a ≡ Fine b

pub then_fine : {A B : Type 0} (x : Checked A) (next : A → Checked B) (b : B) → then_ x next ≡ Fine b → Then x next b
then_fine (Fine a) next b h = record { a = a; first = refl; second = h }
then_fine (Bad why) next b h = absurd cc

pub found_fine : {A : Type 0} (o : Option A) (a : A) → found o ≡ Fine a → o ≡ Some a
found_fine None a h = absurd cc
found_fine (Some b) a h = ap Some (fine_is b a h)

pub kind_true : (a b : Kind) → same_kind a b ≡ true → a ≡ b
kind_true a b h = same_kind-is a b h

pub taken_fine : (store : Store) (x v : Value) → taken store x ≡ Fine v → x ≡ v
taken_fine store (Number z) v h = fine_is _ _ h
taken_fine store Null v h = fine_is _ _ h
taken_fine store (Pointer o i) v h = by (lives store o) h
  where
    by : (b : Bool) → unless b (Pointer o i) DeadPointerRead ≡ Fine v → Pointer o i ≡ v
    by true k = fine_is _ _ k
    by false k = absurd cc
taken_fine store Unset v h = absurd cc

kind_cell : (kind : Kind) (o : Option Kind) → is_of_kind kind o ≡ true → o ≡ Some kind
kind_cell kind None h = absurd cc
kind_cell kind (Some k) h = ap Some (kind_true k kind h)

cell_from : (p : Linking) (shape : Object → Option Shape) (o : Object) (i : ℕ) (kind : Kind) (s : Option Shape) → shape o ≡ s → has_cell i kind s ≡ true → Cell p shape o i kind
cell_from p shape o i kind None e h = absurd cc
cell_from p shape o i kind (Some sh) e h = record { sh = sh; live = e; cell = kind_cell kind (sh.cells i) h }

pub cell_stands : (p : Linking) (store : Store) (o : Object) (i : ℕ) (kind : Kind) → stands store o i kind ≡ true → Cell p store.shape o i kind
cell_stands p store o i kind h = cell_from p store.shape o i kind (store.shape o) refl h

-- a read of a cell
pub record ReadOf (p : Linking) (store : Store) (o : Object) (i : ℕ) (kind : Kind) (v : Value) : Type 0 where
  pub cell : Cell p store.shape o i kind
  pub is : store.values o i ≡ v

pub read_fine : (p : Linking) (store : Store) (o : Object) (i : ℕ) (kind : Kind) (v : Value) → read_cell store o i kind ≡ Fine v → ReadOf p store o i kind v
read_fine p store o i kind v h = by (stands store o i kind) refl h
  where
    by : (b : Bool) → stands store o i kind ≡ b → cond b (taken store (store.values o i)) (Bad NoSuchCell) ≡ Fine v → ReadOf p store o i kind v
    by true e k = record { cell = cell_stands p store o i kind e; is = taken_fine store (store.values o i) v k }
    by false e k = absurd cc

-- a write to a cell
pub record WriteOf (p : Linking) (store : Store) (o : Object) (i : ℕ) (kind : Kind) (v : Value) (after : Store) : Type 0 where
  pub cell : Cell p store.shape o i kind
  pub is : after ≡ record store { values = with_value store.values o i v }

pub write_fine : (p : Linking) (store : Store) (o : Object) (i : ℕ) (kind : Kind) (v : Value) (after : Store) → write_cell store o i kind v ≡ Fine after → WriteOf p store o i kind v after
write_fine p store o i kind v after h = by (stands store o i kind) refl h
  where
    by : (b : Bool) → stands store o i kind ≡ b → unless b (record store { values = with_value store.values o i v }) NoSuchCell ≡ Fine after → WriteOf p store o i kind v after
    by true e k = record { cell = cell_stands p store o i kind e; is = sym (fine_is _ _ k) }
    by false e k = absurd cc

location_fine : (v : Value) (at : Location) → location_of v ≡ Fine at → v ≡ Pointer at.object at.offset
location_fine (Number z) at h = absurd cc
location_fine Null at h = absurd cc
location_fine (Pointer o i) at h = let e = fine_is _ _ h in ap (λ (q : Location). Pointer q.object q.offset) e
location_fine Unset at h = absurd cc

pub located_fine : (place : Place) (by : Active) (registers : ℕ → Value) (store : Store) (at : Location) → located place by registers store ≡ Fine at → place_of place by registers store ≡ Fine (Pointer at.object at.offset)
located_fine place by registers store at h =
    let t = then_fine (place_of place by registers store) location_of at h in
    t.first ∙ ap Fine (location_fine t.a at t.second)

-- an access to a place

pub record ReadPlace (p : Linking) (place : Place) (kind : Kind) (by : Active) (registers : ℕ → Value) (store : Store) (f : Found) : Type 0 where
  pub place_is : place_of place by registers store ≡ Fine (Pointer f.at.object f.at.offset)
  pub read : ReadOf p store f.at.object f.at.offset kind f.value

pub read_place_fine : (p : Linking) (place : Place) (kind : Kind) (by : Active) (registers : ℕ → Value) (store : Store) (f : Found) → read_place place kind by registers store ≡ Fine f → ReadPlace p place kind by registers store f
read_place_fine p place kind by registers store f h =
    let t = then_fine (located place by registers store) _ f h in
    let q = then_fine (read_cell store t.a.object t.a.offset kind) _ f t.second in
    let e : record { at = t.a; value = q.a } ≡ f = fine_is _ _ q.second in
    subst (λ (z : Found). ReadPlace p place kind by registers store z) e (record { place_is = located_fine place by registers store t.a t.first; read = read_fine p store t.a.object t.a.offset kind q.a q.first })

pub record WritePlace (p : Linking) (place : Place) (kind : Kind) (v : Value) (by : Active) (registers : ℕ → Value) (store : Store) (l : Left) : Type 0 where
  pub place_is : place_of place by registers store ≡ Fine (Pointer l.at.object l.at.offset)
  pub taken : Value
  pub taken_is : stored kind v ≡ Fine taken
  pub write : WriteOf p store l.at.object l.at.offset kind taken l.store

pub write_place_fine : (p : Linking) (place : Place) (kind : Kind) (v : Value) (by : Active) (registers : ℕ → Value) (store : Store) (l : Left) → write_place place kind v by registers store ≡ Fine l → WritePlace p place kind v by registers store l
write_place_fine p place kind v by registers store l h =
    let t = then_fine (located place by registers store) _ l h in
    let q = then_fine (stored kind v) _ l t.second in
    let w = then_fine (write_cell store t.a.object t.a.offset kind q.a) _ l q.second in
    let e : record { at = t.a; store = w.a } ≡ l = fine_is _ _ w.second in
    subst (λ (z : Left). WritePlace p place kind v by registers store z) e (record { place_is = located_fine place by registers store t.a t.first; taken = q.a; taken_is = q.first; write = write_fine p store t.a.object t.a.offset kind q.a w.a w.first })

-- an access to a slot

slot_cell : (p : Linking) (shape : Object → Option Shape) (o : Object) (s : Option Shape) → shape o ≡ s → is_there s ≡ true → ((sh : Shape) → shape o ≡ Some sh → sh ≡ slot_shape) → Cell p shape o 0 U32
slot_cell p shape o None e h is = absurd cc
slot_cell p shape o (Some sh) e h is = record { sh = sh; live = e; cell = ap (λ (z : Shape). z.cells 0) (is sh e) }

pub read_slot_fine : (p : Linking) (at : Location) (store : Store) (f : Found) → ((sh : Shape) → store.shape at.object ≡ Some sh → sh ≡ slot_shape) → at.offset ≡ 0 → read_slot at store ≡ Fine f → (f.at ≡ at) × ReadOf p store f.at.object f.at.offset U32 f.value
read_slot_fine p at store f is zero_ h =
    let t = then_fine (unless (lives store at.object) (store.values at.object at.offset) NoSuchCell) _ f h in
    let k = unless_fine (lives store at.object) (store.values at.object at.offset) t.a NoSuchCell t.first in
    let e : record { at = at; value = t.a } ≡ f = fine_is _ _ t.second in
    subst (λ (z : Found). (z.at ≡ at) × ReadOf p store z.at.object z.at.offset U32 z.value) e
    (refl, record { cell = subst (λ z. Cell p store.shape at.object z U32) (sym zero_) (slot_cell p store.shape at.object (store.shape at.object) refl k.0 is); is = k.1 })

pub write_slot_fine : (p : Linking) (at : Location) (v : Value) (store : Store) (l : Left) → ((sh : Shape) → store.shape at.object ≡ Some sh → sh ≡ slot_shape) → at.offset ≡ 0 → write_slot at v store ≡ Fine l → (l.at ≡ at) × WriteOf p store l.at.object l.at.offset U32 v l.store
write_slot_fine p at v store l is zero_ h =
    let t = then_fine (unless (lives store at.object) (record store { values = with_value store.values at.object at.offset v }) NoSuchCell) _ l h in
    let k = unless_fine (lives store at.object) (record store { values = with_value store.values at.object at.offset v }) t.a NoSuchCell t.first in
    let e : record { at = at; store = t.a } ≡ l = fine_is _ _ t.second in
    subst (λ (z : Left). (z.at ≡ at) × WriteOf p store z.at.object z.at.offset U32 v z.store) e
    (refl, record { cell = subst (λ z. Cell p store.shape at.object z U32) (sym zero_) (slot_cell p store.shape at.object (store.shape at.object) refl k.0 is); is = sym k.1 })
