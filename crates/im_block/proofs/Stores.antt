-- What accesses find and leave: no cell stands where a return address is kept.
use Rattle.std.proofs.Common.{◌≡◌, ℕ, Bool, true, false, Option, Some, None, refl, sym, ap, ◌∙◌, subst}
use Rattle.std.specs.Prelude.{if◌then◌else◌, List, ◌==◌}
use Rattle.im_num.specs.declared.kind.Kind.{Kind}
use Rattle.im_store.specs.declared.undefined.Undefined.{Undefined}
use Rattle.im_store.specs.declared.undefined.Undefined.TheVariants.{NoSuchCell}
use Rattle.im_store.specs.Checks.{Checked, Fine, Bad, then_, unless}
use Rattle.im_store.specs.Objects.{Name, Link, Object, Value, Shape, Store, ends, lives}
use Rattle.im_store.specs.Statics.{StaticObject, static_shapes, with_statics}
use Rattle.im_store.specs.Access.{stands, has_cell, is_of_kind, read_cell, write_cell, with_value}
use Rattle.im_block.specs.declared.code.Place.{Place}
use Rattle.im_block.specs.declared.unit.Function.{Function}
use Rattle.im_block.specs.Meaning.{Active, Location, Found, Left, located, stored, read_place, write_place, read_slot, write_slot, shapes_of, begun_by}

abbrev pub NoCell : Option Shape → Type 0
NoCell None = Unit {0}
NoCell (Some shape) = (offset : ℕ) → shape.cells offset ≡ None

-- where return addresses are kept no cell stands
pub record Bare (store : Store) : Type 0 where
  pub each : (o : Object) → o.name ≡ Link → NoCell (store.shape o)

pub bare_shape : (a b : Store) → b.shape ≡ a.shape → Bare a → Bare b
bare_shape a b e h = record { each = λ o is. subst (λ (f : Object → Option Shape). NoCell (f o)) (sym e) (h.each o is) }

either_none : (b : Bool) (x y : Option Shape) → NoCell x → NoCell y → NoCell (if b then x else y)
either_none true x y p q = p
either_none false x y p q = q

pub bare_begun : (store : Store) (f : Function) (by : Active) → Bare store → Bare (begun_by f by store)
bare_begun store f by h = record {
  each = λ o is.
      let new : NoCell (shapes_of f o.name) = subst (λ n. NoCell (shapes_of f n)) (sym is) (λ offset. refl) in
      either_none (o.activation == by.number) _ _ (either_none (o.depth == by.depth) (shapes_of f o.name) None new tt) (h.each o is);
}

pub bare_ended : (store : Store) (activation : ℕ) → Bare store → Bare (ends store activation)
bare_ended store activation h = record { each = λ o is. either_none (o.activation == activation) None (store.shape o) tt (h.each o is) }

-- a cell stands at a place
no_cell_stands : (shape : Option Shape) (offset : ℕ) (kind : Kind) → NoCell shape → has_cell offset kind shape ≡ true → ⊥
no_cell_stands None offset kind h e = cc
no_cell_stands (Some shape) offset kind h e =
    let none : is_of_kind kind (shape.cells offset) ≡ false = ap (is_of_kind kind) (h offset) in
    cc

fine_then : {A B : Type 0} (c : Checked A) (next : A → Checked B) (b : B) → then_ c next ≡ Fine b → (a : A) × (c ≡ Fine a) × (next a ≡ Fine b)
fine_then (Fine a) next b e = (a, refl, e)
fine_then (Bad why) next b e = cc

fine_if : {A : Type 0} (test : Bool) (c : Checked A) (why : Undefined) (a : A) → (if test then c else Bad why) ≡ Fine a → (test ≡ true) × (c ≡ Fine a)
fine_if true c why a e = (refl, e)
fine_if false c why a e = cc

fine_unless : {A : Type 0} (test : Bool) (x : A) (why : Undefined) (a : A) → unless test x why ≡ Fine a → (test ≡ true) × (x ≡ a)
fine_unless true x why a e =
    let same : x ≡ a = cc in
    (refl, same)
fine_unless false x why a e = cc

fine_is : {A : Type 0} (a b : A) → Fine a ≡ Fine b → a ≡ b
fine_is a b e = cc

-- what a read of a place finds stands in a cell, so it is no return address
pub read_free : (place : Place) (kind : Kind) (by : Active) (registers : ℕ → Value) (store : Store) (f : Found) → Bare store → read_place place kind by registers store ≡ Fine f → f.at.object.name ≡ Link → ⊥
read_free place kind by registers store f bare e is =
    let a = fine_then (located place by registers store) _ f e in
    let b = fine_then (read_cell store a.0.object a.0.offset kind) _ f a.2 in
    let at : a.0 ≡ f.at = ap (λ (x : Found). x.at) (fine_is _ f b.2) in
    let c = fine_if (stands store a.0.object a.0.offset kind) _ NoSuchCell b.0 b.1 in
    let link : a.0.object.name ≡ Link = ap (λ (l : Location). l.object.name) at ∙ is in
    no_cell_stands (store.shape a.0.object) a.0.offset kind (bare.each a.0.object link) c.0

pub record Wrote (store : Store) (at : Location) (l : Left) : Type 0 where
  pub at_is : l.at ≡ at
  pub shape : l.store.shape ≡ store.shape

pub write_leaves : (place : Place) (kind : Kind) (v : Value) (by : Active) (registers : ℕ → Value) (store : Store) (l : Left) → write_place place kind v by registers store ≡ Fine l → l.store.shape ≡ store.shape
write_leaves place kind v by registers store l e =
    let a = fine_then (located place by registers store) _ l e in
    let b = fine_then (stored kind v) _ l a.2 in
    let c = fine_then (write_cell store a.0.object a.0.offset kind b.0) _ l b.2 in
    let left : c.0 ≡ l.store = ap (λ (x : Left). x.store) (fine_is _ l c.2) in
    let d = fine_unless (stands store a.0.object a.0.offset kind) _ NoSuchCell c.0 c.1 in
    ap (λ (s : Store). s.shape) (sym left) ∙ ap (λ (s : Store). s.shape) (sym d.1)

pub write_free : (place : Place) (kind : Kind) (v : Value) (by : Active) (registers : ℕ → Value) (store : Store) (l : Left) → Bare store → write_place place kind v by registers store ≡ Fine l → l.at.object.name ≡ Link → ⊥
write_free place kind v by registers store l bare e is =
    let a = fine_then (located place by registers store) _ l e in
    let b = fine_then (stored kind v) _ l a.2 in
    let c = fine_then (write_cell store a.0.object a.0.offset kind b.0) _ l b.2 in
    let at : a.0 ≡ l.at = ap (λ (x : Left). x.at) (fine_is _ l c.2) in
    let d = fine_unless (stands store a.0.object a.0.offset kind) _ NoSuchCell c.0 c.1 in
    let link : a.0.object.name ≡ Link = ap (λ (x : Location). x.object.name) at ∙ is in
    no_cell_stands (store.shape a.0.object) a.0.offset kind (bare.each a.0.object link) d.0

pub slot_read_at : (at : Location) (store : Store) (f : Found) → read_slot at store ≡ Fine f → f.at ≡ at
slot_read_at at store f e =
    let b = fine_then (unless (lives store at.object) (store.values at.object at.offset) NoSuchCell) _ f e in
    ap (λ (x : Found). x.at) (sym (fine_is _ f b.2))

pub slot_write_at : (at : Location) (v : Value) (store : Store) (l : Left) → write_slot at v store ≡ Fine l → l.at ≡ at
slot_write_at at v store l e =
    let b = fine_then (unless (lives store at.object) (record store { values = with_value store.values at.object at.offset v }) NoSuchCell) _ l e in
    ap (λ (x : Left). x.at) (sym (fine_is _ l b.2))

pub slot_write_leaves : (at : Location) (v : Value) (store : Store) (l : Left) → write_slot at v store ≡ Fine l → l.store.shape ≡ store.shape
slot_write_leaves at v store l e =
    let b = fine_then (unless (lives store at.object) (record store { values = with_value store.values at.object at.offset v }) NoSuchCell) _ l e in
    let left : b.0 ≡ l.store = ap (λ (x : Left). x.store) (fine_is _ l b.2) in
    let d = fine_unless (lives store at.object) _ NoSuchCell b.0 b.1 in
    ap (λ (s : Store). s.shape) (sym left) ∙ ap (λ (s : Store). s.shape) (sym d.1)

static_none : (statics : List StaticObject) (n : Name) → n ≡ Link → NoCell (static_shapes statics n)
static_none statics n e = subst (λ m. NoCell (static_shapes statics m)) (sym e) tt

pub bare_start : (statics : List StaticObject) → Bare (with_statics statics)
bare_start statics = record {
  each = λ o is. either_none (o.activation == 0) _ _ (either_none (o.depth == 0) (static_shapes statics o.name) None (static_none statics o.name is) tt) tt;
}
