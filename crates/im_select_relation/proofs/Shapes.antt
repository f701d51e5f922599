-- The shapes of declared objects have their cells; the statics live throughout, and memory shows them.
use Rattle.std.proofs.Common.{◌≡◌, ℕ, suc, ◌<◌, ◌≤◌, ◌⊎◌, inl, inr, Bool, true, false, cond, List, [], ◌∷◌, Option, Some, None, sym, ap, ◌∙◌, subst, refl, arith}
use Rattle.std.specs.Prelude.{◌==◌, slice_get, nat_le, nat_lt, ◌-◌, ◌%◌, All}
use Rattle.std.proofs.lemmas.Option.{slice_get_within, get_or_from_slice_get}
use Rattle.std.proofs.lemmas.List.Elements.{All-get_or}
use Rattle.std.proofs.lemmas.Bool.Decides.{nat_tests}
use Rattle.im_num.specs.declared.kind.Kind.{Kind}
use Rattle.im_num.specs.declared.kind.Kind.TheVariants.{U32}
use Rattle.im_num.specs.Kinds.{kind_size}
use Rattle.im_mem.specs.Memory.{Mem}
use Rattle.im_ctype.specs.declared.cell.Cell.{Cell as CellOf}
use Rattle.im_store.specs.Objects.{Name, Named, Slot, Link, Object, static, Shape, Store, kind_at, shape_of}
use Rattle.im_store.specs.Statics.{StaticObject, static_shapes, with_statics}
use Rattle.std.specs.Option.{option_map}
use Rattle.std.proofs.lemmas.Option.{slice_get-map}
use Rattle.im_store.specs.Outcomes.{variables}
use Rattle.im_block.specs.declared.unit.Object.{Object as Declared}
use Rattle.im_block.specs.declared.unit.Static.{Static as StaticOf}
use Rattle.im_block.specs.declared.unit.Function.{Function}
use Rattle.im_block.specs.declared.unit.Unit.{Unit as Code}
use Rattle.im_block.specs.Meaning.{Setting, shape_at, slot_shape, link_shape, shapes_of, static_of, statics_of}
use Rattle.im_block.specs.Wellformed.{IsWellFormed, IsFunction, IsStatic}
use Rattle.im_block.specs.Wellformed.{HasCells as HasCellsOf}
use Rattle.im_select_relation.specs.Linking.{Linking, HasCells}
use Rattle.im_select_relation.specs.Linked.{IsLinked}
use Rattle.im_select_relation.specs.Law.{ShowsStatics}
use Rattle.im_select_relation.proofs.Mapped.{Mark, Mapped}
use Rattle.im_select_relation.proofs.Cells.{Memory, memory_same}

pub all_at : {X : Type 0} (P : X → Type 0) (xs : List X) (i : ℕ) (x : X) → All P xs → slice_get xs i ≡ Some x → P x
all_at P xs i x a e = subst P (get_or_from_slice_get xs i x x e) (All-get_or P xs i x (slice_get_within xs i x e) a)

-- a cell that is found by its offset
record Found (cells : List CellOf) (i : ℕ) (k : Kind) : Type 0 where
  index : ℕ
  cell : CellOf
  there : slice_get cells index ≡ Some cell
  offset : cell.offset ≡ i
  kind : cell.kind ≡ k

found_cell : (cells : List CellOf) (i : ℕ) (k : Kind) → kind_at cells i ≡ Some k → Found cells i k
found_cell [] i k h = absurd cc
found_cell (c ∷ cs) i k h = by (c.offset == i) refl (λ e. found_cell cs i k e) h
  where
    equal : (a b : ℕ) → (a == b) ≡ true → a ≡ b
    equal a b t = grind (arith, nat_tests)

    by : (b : Bool) → (c.offset == i) ≡ b → (kind_at cs i ≡ Some k → Found cs i k) → cond b (Some c.kind) (kind_at cs i) ≡ Some k → Found (c ∷ cs) i k
    by true t more e = record { index = 0; cell = c; there = refl; offset = equal c.offset i t; kind = cc }
    by false t more e = let f = more e in record { index = suc f.index; cell = f.cell; there = f.there; offset = f.offset; kind = f.kind }

three_ways : (i j : ℕ) → (i ≡ j) ⊎ (i < j) ⊎ (j < i)
three_ways i j = grind arith

pub shape_cells : (o : Declared) → HasCellsOf o → HasCells (shape_of o.size o.cells.items)
shape_cells o h = record {
  inside = λ i k e. let f = found_cell o.cells.items i k e in let l = h.inside f.index f.cell f.there in let a = f.offset in let b = ap kind_size f.kind in omega arith;
  even = λ i k e.
      let f = found_cell o.cells.items i k e in
      subst (λ z. z % kind_size k ≡ 0) f.offset (subst (λ z. f.cell.offset % kind_size z ≡ 0) f.kind (h.even f.index f.cell f.there));
  apart = λ i k j l e d.
      let f = found_cell o.cells.items i k e in
      let q = found_cell o.cells.items j l d in
      let a = f.offset in
      let b = q.offset in
      let x = ap kind_size f.kind in
      let y = ap kind_size q.kind in
      elim (three_ways f.index q.index) [
        | inl s ↦ inl (sym f.offset ∙ ap (λ (z : CellOf). z.offset) (one (sym f.there ∙ ap (slice_get o.cells.items) s ∙ q.there)) ∙ q.offset)
        | inr (inl s) ↦ inr (inl (let m = h.apart f.index q.index f.cell q.cell f.there q.there s in omega arith))
        | inr (inr s) ↦ inr (inr (let m = h.apart q.index f.index q.cell f.cell q.there f.there s in omega arith))
      ];
}
  where
    one : {c d : CellOf} → Some c ≡ Some d → c ≡ d
    one t = cc

slot_cell : (i : ℕ) (k : Kind) → slot_shape.cells i ≡ Some k → (i ≡ 0) × (k ≡ U32)
slot_cell i k h = by (i == 0) refl h
  where
    equal : (a : ℕ) → (a == 0) ≡ true → a ≡ 0
    equal a t = grind (arith, nat_tests)

    by : (b : Bool) → (i == 0) ≡ b → cond b (Some U32) None ≡ Some k → (i ≡ 0) × (k ≡ U32)
    by true t e = (equal i t, cc)
    by false t e = absurd cc

slot_cells : HasCells slot_shape
slot_cells = record {
  inside = λ i k e. let s = slot_cell i k e in let a = s.0 in let b = ap kind_size s.1 in omega arith;
  even = λ i k e. let s = slot_cell i k e in subst (λ z. z % kind_size k ≡ 0) (sym s.0) (subst (λ z. 0 % kind_size z ≡ 0) (sym s.1) refl);
  apart = λ i k j l e d. inl ((slot_cell i k e).0 ∙ sym (slot_cell j l d).0);
}

shape_is : (o : Option Declared) (sh : Shape) → shape_at o ≡ Some sh → (d : Declared) × (o ≡ Some d) × (shape_of d.size d.cells.items ≡ sh)
shape_is None sh h = absurd cc
shape_is (Some d) sh h = (d, refl, cc)

named_is : (first : ℕ) (xs : List Declared) (n : ℕ) (sh : Shape) → cond (nat_le first n) (shape_at (slice_get xs (n - first))) None ≡ Some sh → shape_at (slice_get xs (n - first)) ≡ Some sh
named_is first xs n sh h = by (nat_le first n) h
  where
    by : (b : Bool) → cond b (shape_at (slice_get xs (n - first))) None ≡ Some sh → shape_at (slice_get xs (n - first)) ≡ Some sh
    by true e = e
    by false e = absurd cc

pub function_cells : (u : Code) → IsWellFormed u → (i : ℕ) (f : Function) → slice_get u.functions.items i ≡ Some f → (a : Name) (sh : Shape) → shapes_of f a ≡ Some sh → HasCells sh
function_cells u w i f is (Named n) sh h =
    let k = shape_is (slice_get f.objects.items (n - f.first_object)) sh (named_is f.first_object f.objects.items n sh h) in
    let o : IsFunction u.functions.items f = all_at (IsFunction u.functions.items) u.functions.items i f w.functions is in
    subst (λ z. HasCells z) k.2 (shape_cells k.0 (all_at HasCellsOf f.objects.items (n - f.first_object) k.0 o.objects k.1))
function_cells u w i f is (Slot n) sh h = by (nat_lt n f.slots) h
  where
    by : (b : Bool) → cond b (Some slot_shape) None ≡ Some sh → HasCells sh
    by true e = let q : slot_shape ≡ sh = cc in subst (λ z. HasCells z) q slot_cells
    by false e = absurd cc
function_cells u w i f is Link sh h = (let q : link_shape ≡ sh = cc in subst (λ z. HasCells z) q (record { inside = λ i k e. absurd cc; even = λ i k e. absurd cc; apart = λ i k j l e d. absurd cc }))

static_is : (o : Option StaticOf) (sh : Shape) → option_map {T = StaticObject} (λ s. shape_of s.size s.cells) (option_map static_of o) ≡ Some sh → (s : StaticOf) × (o ≡ Some s) × (shape_of s.object.size s.object.cells.items ≡ sh)
static_is None sh h = absurd cc
static_is (Some s) sh h = (s, refl, cc)

pub static_cells : (u : Code) → IsWellFormed u → (a : Name) (sh : Shape) → static_shapes (statics_of u) a ≡ Some sh → HasCells sh
static_cells u w (Named n) sh h =
    let e : slice_get (statics_of u) n ≡ option_map static_of (slice_get u.statics.items n) = slice_get-map static_of u.statics.items n in
    let k = static_is (slice_get u.statics.items n) sh (ap (option_map {T = StaticObject} (λ s. shape_of s.size s.cells)) (sym e) ∙ h) in
    let s : IsStatic u.statics.items k.0 = all_at (IsStatic u.statics.items) u.statics.items n k.0 w.statics k.1 in
    subst (λ z. HasCells z) k.2 (shape_cells k.0.object s.cells)
static_cells u w (Slot n) sh h = absurd cc
static_cells u w Link sh h = absurd cc

-- what whole runs rest on
pub record Premises (p : Linking) (u : Code) (g : Setting) : Type 0 where
  pub at : IsLinked p u g
  pub cells : (i : ℕ) (f : Function) → slice_get u.functions.items i ≡ Some f → (a : Name) (sh : Shape) → shapes_of f a ≡ Some sh → HasCells sh
  pub static_cells : (a : Name) (sh : Shape) → static_shapes (statics_of u) a ≡ Some sh → HasCells sh

-- the statics live as they did at first
abbrev pub StaticsLive : Code → (Object → Option Shape) → Type 0
StaticsLive u shape = (o : Object) → o.activation ≡ 0 → shape o ≡ (with_statics (statics_of u)).shape o

pub shows_statics : (p : Linking) (u : Code) (store : Store) (frames : List Mark) (m k : Mem) → StaticsLive u store.shape → Mapped p store.shape frames → Memory p store.shape store.values m → ((a : ℕ) → 1048576 ≤ a → a < 3145728 → k a ≡ m a) → ShowsStatics p u (variables (statics_of u) store) k
shows_statics p u store frames m k live mapped memory same = record {
  store = store;
  same = refl;
  cells = λ n s i kind e c.
      let sh : store.shape (static n) ≡ Some (shape_of s.size s.cells) = live (static n) refl ∙ ap (option_map {T = StaticObject} (λ q. shape_of q.size q.cells)) e in
      memory_same p store.shape frames store.values m k mapped same memory (static n) i kind (record { sh = shape_of s.size s.cells; live = sh; cell = c });
}
