-- The statics as an end shows them.
use Rattle.std.proofs.Common.{◌≡◌, ℕ, zero, suc, ◌+◌, ◌<◌, ◌==◌, List, [], ◌∷◌, ◌++◌, map, take, length, get_or, refl, sym, ap, ◌∙◌, arith}
use Rattle.std.specs.Prelude.{Some, slice_get, Result, Ok, Err, IfOk}
use Rattle.std.proofs.lemmas.Bool.{eq-eqb}
use Rattle.im_num.specs.declared.kind.Kind.{Kind}
use Rattle.im_num.specs.declared.values.CellValue.{CellValue}
use Rattle.im_num.specs.declared.values.Var.{Var}
use Rattle.im_num.specs.Variables.{Variable, variable_of}
use Rattle.im_num.specs.declared.fault.NoMemory.{NoMemory}
use Rattle.im_ctype.specs.declared.cell.Cell.{Cell}
use Rattle.im_store.specs.Objects as o
use Rattle.im_store.specs.Objects.{Shape, Store, shape_of, static, kind_at}
use Rattle.im_store.specs.Outcomes.{cell_shown, cells_shown, variables, variables_from}
use Rattle.im_store.specs.Statics.{StaticObject}
use Rattle.im_eval_store.specs.declared.memory.Memory.{Memory}
use Rattle.im_eval_store.specs.declared.value.Value.{Value}
use Rattle.im_eval_store.specs.Living.{Holds}
use Rattle.im_eval_store.specs.Shown.{shown}
use Rattle.im_eval_store.proofs.Finding.{by-test, if-true, if-false}
use Rattle.im_eval_machine.specs.Small.{small_static}
use Rattle.im_eval_machine.proofs.Rows.{length-mapped, taken-one}
use Rattle.im_eval.specs.Shows.{AllStand}

some-same : {X : Type 0} (a b : X) → Some a ≡ Some b → a ≡ b
some-same a b e = cc

-- each cell of an object stands in its shape
pub all-stand : (cs : List Cell) → AllStand (kind_at cs) cs
all-stand [] k c e = absurd (cc)
all-stand (d ∷ ds) zero c e =
    let same = some-same d c e in
    (d.kind, if-true (d.offset == c.offset) (Some d.kind) (kind_at ds c.offset) (eq-eqb d.offset c.offset (ap (λ (x : Cell). x.offset) same)))
all-stand (d ∷ ds) (suc k) c e =
    by-test (d.offset == c.offset)
    (λ t. (d.kind, if-true (d.offset == c.offset) (Some d.kind) (kind_at ds c.offset) t))
    (λ t. let r = all-stand ds k c e in (r.0, if-false (d.offset == c.offset) (Some d.kind) (kind_at ds c.offset) t ∙ r.1))

-- what stands at a place of a list
pub got-or : {X : Type 0} (d : X) (xs : List X) (i : ℕ) → i < length xs → slice_get xs i ≡ Some (get_or xs i d)
got-or d [] i lt = absurd (omega arith)
got-or d (x ∷ xs) zero lt = refl
got-or d (x ∷ xs) (suc i) lt = got-or d xs i (let less : i < length xs = omega arith in less)

pub same-or : {X : Type 0} (d e : X) (xs : List X) (i : ℕ) → i < length xs → get_or xs i d ≡ get_or xs i e
same-or d e [] i lt = absurd (omega arith)
same-or d e (x ∷ xs) zero lt = refl
same-or d e (x ∷ xs) (suc i) lt = same-or d e xs i (let less : i < length xs = omega arith in less)

-- one cell more is shown
pub shown-on : (values : ℕ → o.Value) (acc : List CellValue) (cs : List Cell) (i : ℕ) (c : Cell) (v : CellValue) → i < length cs → c ≡ get_or cs i c → acc ≡ cells_shown values (take i cs)
    → v ≡ cell_shown (values c.offset) → acc ++ v ∷ [] ≡ cells_shown values (take (i + 1) cs)
shown-on values acc cs i c v lt at so_far e =
    ap (λ xs. xs ++ v ∷ []) so_far
    ∙ ap (λ w. cells_shown values (take i cs) ++ w ∷ []) e
    ∙ sym (taken-one (λ (d : Cell). cell_shown (values d.offset)) cs i c lt at)

-- the statics from a number on, and one more
pub variables-more : (n : ℕ) (ss : List StaticObject) (s : StaticObject) (store : Store) → variables_from n (ss ++ s ∷ []) store ≡ variables_from n ss store ++ record { name = s.name; cells = cells_shown (store.values (static (n + length ss))) s.cells } ∷ []
variables-more n [] s store = ap (λ k. let v : Variable = record { name = s.name; cells = cells_shown (store.values (static k)) s.cells } in v ∷ []) (plus n)
  where
    plus : (n : ℕ) → n ≡ n + 0
    plus n = omega arith
variables-more n (t ∷ ss) s store =
    ap (λ vs. record { name = t.name; cells = cells_shown (store.values (static n)) t.cells } ∷ vs)
    (variables-more (suc n) ss s store
    ∙ ap (λ k. let v : Variable = record { name = s.name; cells = cells_shown (store.values (static k)) s.cells } in variables_from (suc n) ss store ++ v ∷ []) (plus n (length ss)))
  where
    plus : (n k : ℕ) → suc n + k ≡ n + suc k
    plus n k = omega arith

mapped-one : {X Y : Type 0} (f : X → Y) (xs : List X) (x : X) → map f (xs ++ x ∷ []) ≡ map f xs ++ f x ∷ []
mapped-one f [] x = refl
mapped-one f (y ∷ ys) x = ap (λ zs. f y ∷ zs) (mapped-one f ys x)

taken-length : {X : Type 0} (xs : List X) (i : ℕ) → i < length xs → length (take i xs) ≡ i
taken-length xs zero lt = refl
taken-length [] (suc i) lt = absurd (omega arith)
taken-length (x ∷ xs) (suc i) lt = ap suc (taken-length xs i (let less : i < length xs = omega arith in less))

pub mapped-at : {X Y : Type 0} (f : X → Y) (xs : List X) (i : ℕ) (x : X) → i < length xs → x ≡ get_or xs i x → slice_get (map f xs) i ≡ Some (f x)
mapped-at f [] i x lt e = absurd (omega arith)
mapped-at f (y ∷ ys) zero x lt e = ap (λ z. Some (f z)) (sym e)
mapped-at f (y ∷ ys) (suc i) x lt e = mapped-at f ys i x (let less : i < length ys = omega arith in less) e

-- one static more is shown
pub shown-one : {X : Type 0} (f : X → StaticObject) (xs : List X) (i : ℕ) (x : X) (acc : List Var) (v : Var) (store : Store) → i < length xs → x ≡ get_or xs i x
    → map {A = Var} variable_of acc ≡ variables (map f (take i xs)) store → variable_of v ≡ record { name = (f x).name; cells = cells_shown (store.values (static i)) (f x).cells }
    → map {A = Var} variable_of (acc ++ v ∷ []) ≡ variables (map f (take (i + 1) xs)) store
shown-one f xs i x acc v store lt at so_far e =
    let some = map f (take i xs) in
    let many = length-mapped f (take i xs) ∙ taken-length xs i lt in
    let count : 0 + length some ≡ i = omega (arith, many) in
    let last : ℕ → List Variable = λ k. record { name = (f x).name; cells = cells_shown (store.values (static k)) (f x).cells } ∷ [] in
    mapped-one variable_of acc v
    ∙ ap (λ vs. vs ++ variable_of v ∷ []) so_far
    ∙ ap (λ w. variables some store ++ w ∷ []) e
    ∙ ap (λ k. variables some store ++ last k) (sym count)
    ∙ sym (variables-more 0 some (f x) store)
    ∙ ap (λ ss. variables ss store) (sym (taken-one f xs i x lt at))

-- a static's first values don't say what an end shows of it
pub small-shown : (n : ℕ) (ss : List StaticObject) (store : Store) → variables_from n (map small_static ss) store ≡ variables_from n ss store
small-shown n [] store = refl
small-shown n (s ∷ ss) store =
    ap (λ vs. record { name = s.name; cells = cells_shown (store.values (static n)) s.cells } ∷ vs) (small-shown (suc n) ss store)

-- a cell shows what the meaning's cell shows, where it has the value
abbrev pub Shows : Memory → ℕ → ℕ → o.Value → Type 0
Shows memory number offset v =
    (last : ℕ) (store : Store) (shape : Shape) (kind : Kind) → Holds memory last store → store.shape (static number) ≡ Some shape → shape.cells offset ≡ Some kind
    → v ≡ store.values (static number) offset

abbrev pub ShowsCell : Memory → ℕ → ℕ → CellValue → Type 0
ShowsCell memory number offset v =
    (last : ℕ) (store : Store) (shape : Shape) (kind : Kind) → Holds memory last store → store.shape (static number) ≡ Some shape → shape.cells offset ≡ Some kind
    → v ≡ cell_shown (store.values (static number) offset)

pub shown-as : (r : Result CellValue NoMemory) (v : Value) (memory : Memory) (number offset : ℕ) → Shows memory number offset (shown v) → IfOk r (λ x. x ≡ cell_shown (shown v)) → IfOk r (ShowsCell memory number offset)
shown-as (Ok x) v memory number offset h e = λ last store shape kind held there stands. e ∙ ap cell_shown (h last store shape kind held there stands)
shown-as (Err why) v memory number offset h e = e
