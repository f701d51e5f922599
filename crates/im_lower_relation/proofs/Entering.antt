-- An activation begins, its parameters are written, and it ends; what the statics show.
use Rattle.std.proofs.Common.{◌≡◌, ℕ, zero, suc, ◌+◌, ◌-◌, ◌<◌, ◌≤◌, ◌==◌, ◌&&◌, List, [], ◌∷◌, length, Bool, true, false, refl, sym, ap, ◌∙◌, subst, arith, le-leb, lt-ltb}
use Rattle.std.specs.Prelude.{Option, Some, None, nat_le, nat_lt, if◌then◌else◌, slice_get}
use Rattle.std.proofs.lemmas.Bool.{eq-eqb}
use Rattle.im_num.specs.declared.kind.Kind.{Kind}
use Rattle.im_num.specs.Variables.{Variable}
use Rattle.im_ctype.specs.declared.cell.Cell.{Cell}
use Rattle.im_store.specs.Checks.{Fine, then_}
use Rattle.im_store.specs.Objects.{Name, Named, Slot, Link, Object, static, Value, Number, Null, Pointer, Unset, Shape, shape_of, kind_at, Store, same_object, begins, ends}
use Rattle.im_store.specs.Access.{has_cell, stands, write_cell, with_value}
use Rattle.im_store.specs.Outcomes.{cell_shown, cells_shown, variables_from, variables}
use Rattle.im_store.specs.Statics.{StaticObject}
use Rattle.im_store.proofs.Same.{same_kind-self, same_object-is, both-true}
use Rattle.im_typed.specs.Program.{LocalObject, Scalar}
use Rattle.im_typed.specs.Runs.{World}
use Rattle.im_typed.specs.Runs as typed
use Rattle.im_typed.specs.Values.{cells_of}
use Rattle.im_typed.specs.Programs.{shape_in, shapes_of, with_arguments}
use Rattle.im_typed.specs.Typing.{Each, IsObject}
use Rattle.im_typed.specs.Sound.{IsCellValue, IsSound, ArgumentsFit}
use Rattle.im_typed.proofs.SoundCalls.{if-none, if-some, same-some, each-at, by-test, if-true, if-false}
use Rattle.im_block.specs.declared.code.Place.TheVariants.{Local}
use Rattle.im_block.specs.declared.code.Line.TheVariants.{Write}
use Rattle.im_block.specs.declared.unit.Object.{Object as Declared}
use Rattle.im_block.specs.declared.unit.Function.{Function}
use Rattle.im_block.specs.declared.unit.Unit.{Unit as Code}
use Rattle.im_block.specs.Meaning as m
use Rattle.im_block.specs.Meaning.{Setting, Active, Frame}
use Rattle.im_lower_relation.specs.Codes.{Point, before}
use Rattle.im_lower_relation.specs.Lowered.{AreObjects, kind_of_one, CodesParameters}
use Rattle.im_lower_relation.specs.Agrees.{Same, Agrees, Home, Mark, at, Reaches}
use Rattle.im_lower_relation.proofs.Steps.{here, stepped, further}
use Rattle.im_lower_relation.proofs.Stores.{agree-write}
use Rattle.im_lower_relation.proofs.Operands.{stored-same}
use Rattle.im_lower_relation.proofs.Ready.{HasArguments}
use Rattle.im_lower_relation.proofs.Layouts.{cell-inside}

-- the objects of a function

objects-same : (xs : List LocalObject) (os : List Declared) (i : ℕ) → AreObjects xs os → m.shape_at (slice_get os i) ≡ shape_in (slice_get xs i)
objects-same [] [] i h = refl
objects-same [] (o ∷ os) i h = absurd h
objects-same (x ∷ xs) [] i h = absurd h
objects-same (x ∷ xs) (o ∷ os) zero h = ap (λ n. Some (shape_of n o.cells.items)) h.0 ∙ ap (λ l. Some (shape_of x.size l)) h.1
objects-same (x ∷ xs) (o ∷ os) (suc i) h = objects-same xs os i h.2

named-same : (first : ℕ) (objects : List LocalObject) (code : Function) (name : Name) (s : Shape) → code.first_object ≡ first → AreObjects objects code.objects.items → shapes_of first objects name ≡ Some s → m.shapes_of code name ≡ Some s
named-same first objects code (Named number) s same h e =
    ap (λ k. if nat_le k number then m.shape_at (slice_get code.objects.items (number - k)) else None) same
    ∙ ap (λ r. if nat_le first number then r else None) (objects-same objects code.objects.items (number - first) h) ∙ e
named-same first objects code (Slot number) s same h e = absurd (cc)
named-same first objects code Link s same h e = absurd (cc)

-- cells lie within the objects of a function
object-inside : (r : Option LocalObject) (s : Shape) (i : ℕ) (kind : Kind) → ((o : LocalObject) → r ≡ Some o → IsObject o.size o.cells) → shape_in r ≡ Some s → s.cells i ≡ Some kind → i ≤ s.size
object-inside None s i kind h e k = absurd (cc)
object-inside (Some o) s i kind h e k =
    let same : shape_of o.size o.cells ≡ s = same-some (shape_of o.size o.cells) s e in
    subst (λ (x : Shape). i ≤ x.size) same (cell-inside 0 o.size o.cells i kind (h o refl).1 (ap (λ (x : Shape). x.cells i) same ∙ k))

named-inside : (first : ℕ) (objects : List LocalObject) (name : Name) (s : Shape) (i : ℕ) (kind : Kind) → Each {A = LocalObject} (λ o. IsObject o.size o.cells) objects → shapes_of first objects name ≡ Some s → s.cells i ≡ Some kind → i ≤ s.size
named-inside first objects (Named number) s i kind all e k =
    object-inside (slice_get objects (number - first)) s i kind (λ o f. each-at (λ (x : LocalObject). IsObject x.size x.cells) objects (number - first) o all f)
    (if-some (nat_le first number) (shape_in (slice_get objects (number - first))) s e).1 k
named-inside first objects (Slot number) s i kind all e k = absurd (cc)
named-inside first objects Link s i kind all e k = absurd (cc)

begun-shape : (c d : Bool) (x y r q : Option Shape) (s : Shape) → (x ≡ Some s → y ≡ Some s) → (r ≡ Some s → q ≡ Some s) → (if c then (if d then x else None) else r) ≡ Some s → (if c then (if d then y else None) else q) ≡ Some s
begun-shape true true x y r q s h k e = h e
begun-shape true false x y r q s h k e = absurd (cc)
begun-shape false d x y r q s h k e = k e

unset-same : (c : Bool) (v w : Value) → Same v w → Same (if c then Unset else v) (if c then Unset else w)
unset-same true v w h = tt
unset-same false v w h = h

pub begun-agrees : (store blocks : Store) (a d first : ℕ) (objects : List LocalObject) (code : Function) → code.first_object ≡ first → AreObjects objects code.objects.items → Each {A = LocalObject} (λ o. IsObject o.size o.cells) objects → Agrees store blocks
    → Agrees (begins store a d (shapes_of first objects)) (begins blocks a d (m.shapes_of code))
begun-agrees store blocks a d first objects code same h typed_objects agrees = record {
  inside = λ o s i kind e k.
      by-test {P = i ≤ s.size} (o.activation == a)
      (λ t.
      let own = if-some (o.depth == d) (shapes_of first objects o.name) s (sym (if-true (o.activation == a) (if o.depth == d then shapes_of first objects o.name else None) (store.shape o) t) ∙ e) in
      named-inside first objects o.name s i kind typed_objects own.1 k)
      (λ t. agrees.inside o s i kind (sym (if-false (o.activation == a) (if o.depth == d then shapes_of first objects o.name else None) (store.shape o) t) ∙ e) k);
  shapes = λ o s e. begun-shape (o.activation == a) (o.depth == d) (shapes_of first objects o.name) (m.shapes_of code o.name) (store.shape o) (blocks.shape o) s (named-same first objects code o.name s same h) (agrees.shapes o s) e;
  values = λ o i. unset-same (o.activation == a) (store.values o i) (blocks.values o i) (agrees.values o i);
}

ended-shape : (c : Bool) (r q : Option Shape) (s : Shape) → (r ≡ Some s → q ≡ Some s) → (if c then None else r) ≡ Some s → (if c then None else q) ≡ Some s
ended-shape true r q s k e = absurd (cc)
ended-shape false r q s k e = k e

pub ended-agrees : (store blocks : Store) (a : ℕ) → Agrees store blocks → Agrees (ends store a) (ends blocks a)
ended-agrees store blocks a agrees = record {
  inside = λ o s i kind e k. agrees.inside o s i kind (if-none (o.activation == a) (store.shape o) s e).1 k;
  shapes = λ o s e. ended-shape (o.activation == a) (store.shape o) (blocks.shape o) s (agrees.shapes o s) e;
  values = agrees.values;
}

-- arguments in the order of their objects

abbrev parameter : ℕ → ℕ → ℕ → Object
parameter a d n = record { activation = a; depth = d; name = Named n }

parameter-number : (a d m n : ℕ) (o : Object) → o ≡ parameter a d m → o ≡ parameter a d n → m ≡ n
parameter-number a d m n o e h = let same : parameter a d m ≡ parameter a d n = sym e ∙ h in ap number_in (ap (λ (x : Object). x.name) same)
  where
    number_in : Name → ℕ
    number_in (Named k) = k
    number_in (Slot k) = k
    number_in Link = 0

swap : (x y : Bool) (v w r : Value) → (x ≡ true → y ≡ true → ⊥) → (if y then w else (if x then v else r)) ≡ (if x then v else (if y then w else r))
swap true true v w r h = absurd (h refl refl)
swap true false v w r h = refl
swap false true v w r h = refl
swap false false v w r h = refl

commuted : (a d k n : ℕ) (vs : List Value) (values : Object → ℕ → Value) (v : Value) (o : Object) (i : ℕ) → k < n
    → with_arguments a d n vs (with_value values (parameter a d k) 0 v) o i ≡ with_value (with_arguments a d n vs values) (parameter a d k) 0 v o i
commuted a d k n [] values v o i lt = refl
commuted a d k n (w ∷ ws) values v o i lt =
    ap (λ r. if same_object o (parameter a d n) && i == 0 then w else r) (commuted a d k (suc n) ws values v o i (omega arith))
    ∙ swap (same_object o (parameter a d k) && i == 0) (same_object o (parameter a d n) && i == 0) v w (with_arguments a d (suc n) ws values o i)
    (λ e h.
    let is = both-true (same_object o (parameter a d k)) (i == 0) e in
    let other = both-true (same_object o (parameter a d n)) (i == 0) h in
    let same = parameter-number a d k n o (same_object-is o (parameter a d k) is.0) (same_object-is o (parameter a d n) other.0) in
    omega arith)

pub values-agree : (store blocks : Store) (values : Object → ℕ → Value) → ((o : Object) (i : ℕ) → values o i ≡ store.values o i) → Agrees store blocks → Agrees (record store { values = values }) blocks
values-agree store blocks values same agrees = record {
  inside = agrees.inside;
  shapes = agrees.shapes;
  values = λ o i. subst (λ v. Same v (blocks.values o i)) (sym (same o i)) (agrees.values o i);
}

if-stands : (store : Store) (o : Object) (kind : Kind) (size : ℕ) (cells : List Cell) → store.shape o ≡ Some (shape_of size cells) → cells ≡ cells_of (Scalar kind) → stands store o 0 kind ≡ true
if-stands store o kind size cells shape one =
    ap (has_cell 0 kind) shape ∙ ap (λ l. has_cell 0 kind (Some (shape_of size l))) one ∙ same_kind-self kind

-- the store behind the writes of parameters
pub record Received (u : Code) (g : Setting) (home : Home) (b : m.State) (body : Point) (n : Mark) (registers : ℕ → Value) (s : typed.State) (store : Store) : Type 0 where
  pub left : Store
  pub leads : Reaches u g b (at home n body registers left s)
  pub agrees : Agrees store left

module _ (u : Code) (g : Setting) (home : Home) (mark : Mark) (registers : ℕ → Value) (s : typed.State) (w : World) where
  abbrev own : ℕ → Object
  own n = parameter home.active.number home.active.depth n

  pub receives : (os : List LocalObject) (vs : List Value) (n from : ℕ) (entry body : Point) (store blocks : Store) → ArgumentsFit os w vs → HasArguments registers from vs → CodesParameters n from os entry body
      → ((i : ℕ) (o : LocalObject) → slice_get os i ≡ Some o → store.shape (own (n + i)) ≡ Some (shape_of o.size o.cells)) → Agrees store blocks
      → Received u g home (at home mark entry registers blocks s) body mark registers s (record store { values = with_arguments home.active.number home.active.depth n vs store.values })
  receives [] [] n from entry body store blocks fit has codes lives agrees = record {
    left = blocks;
    leads = subst (λ x. Reaches u g (at home mark x registers blocks s) (at home mark body registers blocks s)) (sym codes) (here u g (at home mark body registers blocks s));
    agrees = agrees;
  }
  receives [] (v ∷ vs) n from entry body store blocks fit has codes lives agrees = absurd fit
  receives (o ∷ os) [] n from entry body store blocks fit has codes lives agrees = absurd fit
  receives (o ∷ os) (v ∷ vs) n from entry body store blocks fit has codes lives agrees =
      let kind = fit.0.0 in
      let plus : n ≡ n + 0 = omega arith in
      let shape : store.shape (own n) ≡ Some (shape_of o.size o.cells) = ap (λ i. store.shape (own i)) plus ∙ lives 0 o refl in
      let after : Store = record store { values = with_value store.values (own n) 0 v } in
      let wrote = agree-write store blocks agrees (own n) 0 kind v after (if-true (stands store (own n) 0 kind) (Fine after) _ (if-stands store (own n) kind o.size o.cells shape fit.0.1)) in
      let rest = receives os vs (suc n) (suc from) codes.0 body after wrote.left fit.1 has.1 codes.2
      (λ i x e. let next : suc n + i ≡ n + suc i = omega arith in ap (λ j. store.shape (own j)) next ∙ lives (suc i) x e) wrote.agrees in
      let now : m.write_place (Local n 0) kind (registers from) home.active registers blocks ≡ Fine (record { at = record { object = own n; offset = 0 }; store = wrote.left }) =
      ap (λ x. m.write_place (Local n 0) kind x home.active registers blocks) has.0
      ∙ ap (λ r. then_ r (λ t. m.left_in (record { object = own n; offset = 0 }) (write_cell blocks (own n) 0 kind t))) (stored-same w.activations w.store kind v fit.0.2)
      ∙ ap (m.left_in (record { object = own n; offset = 0 })) wrote.is in
      let line : kind_of_one o.cells ≡ kind = ap kind_of_one fit.0.1 in
      record {
        left = rest.left;
        leads = subst (λ x. Reaches u g (at home mark x registers blocks s) (at home mark body registers rest.left s)) (sym (codes.3 ∙ ap (λ k. before (Write (Local n 0) k from codes.1) codes.0) line))
            (further u g
            (stepped u g _ (ap (λ r. m.writes (m.site_of codes.1 kind) r codes.0.rest (at home mark (before (Write (Local n 0) kind from codes.1) codes.0) registers blocks s)) now))
            rest.leads);
        agrees = values-agree (record after { values = with_arguments home.active.number home.active.depth (suc n) vs after.values }) rest.left (with_arguments home.active.number home.active.depth n (v ∷ vs) store.values)
            (λ x i. sym (commuted home.active.number home.active.depth n (suc n) vs store.values v x i (omega arith))) rest.agrees;
      }

-- arguments as they are passed
pub arguments-passed : (vs : List Value) (j first count : ℕ) (registers : ℕ → Value) → j + length vs ≤ count → HasArguments registers (first + j) vs → HasArguments (m.passed 0 first count registers) j vs
arguments-passed [] j first count registers few h = tt
arguments-passed (v ∷ vs) j first count registers few h =
    let in_range : j < 0 + count = omega arith in
    let le : 0 ≤ j = omega arith in
    let minus : first + (j - 0) ≡ first + j = omega arith in
    let next : suc (first + j) ≡ first + suc j = omega arith in (
      if-true (nat_le 0 j && nat_lt j (0 + count)) (registers (first + (j - 0))) Unset (ap (λ b. b && nat_lt j (0 + count)) (le-leb 0 j le) ∙ lt-ltb j (0 + count) in_range) ∙ ap registers minus ∙ h.0,
      arguments-passed vs (suc j) first count registers (omega arith) (subst (λ i. HasArguments registers i vs) next h.1),
    )

-- what the statics show

module _ (statics : List StaticObject) (begun : ℕ) (store blocks : Store) (sound : IsSound statics begun store) (agrees : Agrees store blocks) where
  shown-same : (activation : ℕ) (kind : Kind) (v w : Value) → activation ≡ 0 → IsCellValue begun store activation kind v → Same v w → cell_shown w ≡ cell_shown v
  shown-same activation kind (Number z) w e h s = ap cell_shown s
  shown-same activation kind Null w e h s = ap cell_shown s
  shown-same activation kind (Pointer o offset) w e h s = ap cell_shown s
  shown-same activation kind Unset w e h s = absurd (omega arith)

  -- each cell is found at its offset
  abbrev AreFound : List Cell → List Cell → Type 0
  AreFound whole part = Each {A = Cell} (λ c. (kind : Kind) × (kind_at whole c.offset ≡ Some kind)) part

  found-behind : (c : Cell) (whole part : List Cell) → AreFound whole part → AreFound (c ∷ whole) part
  found-behind c whole [] h = tt
  found-behind c whole (x ∷ xs) h = (
    by-test {P = (kind : Kind) × (kind_at (c ∷ whole) x.offset ≡ Some kind)} (c.offset == x.offset)
        (λ e. (c.kind, if-true (c.offset == x.offset) (Some c.kind) (kind_at whole x.offset) e))
        (λ e. (h.0.0, if-false (c.offset == x.offset) (Some c.kind) (kind_at whole x.offset) e ∙ h.0.1)),
    found-behind c whole xs h.1,
  )

  all-found : (cells : List Cell) → AreFound cells cells
  all-found [] = tt
  all-found (c ∷ cs) = ((c.kind, if-true (c.offset == c.offset) (Some c.kind) (kind_at cs c.offset) (eq-eqb c.offset c.offset refl)), found-behind c cs cs (all-found cs))

  cells-same : (n : ℕ) (s : StaticObject) (cells : List Cell) → slice_get statics n ≡ Some s → AreFound s.cells cells → cells_shown (blocks.values (static n)) cells ≡ cells_shown (store.values (static n)) cells
  cells-same n s [] e h = refl
  cells-same n s (c ∷ cs) e h =
      ap (λ x. x ∷ cells_shown (blocks.values (static n)) cs)
      (shown-same 0 h.0.0 (store.values (static n) c.offset) (blocks.values (static n) c.offset) refl
      (sound.cells (static n) (shape_of s.size s.cells) c.offset h.0.0 (sound.live n s e) h.0.1) (agrees.values (static n) c.offset))
      ∙ ap (λ xs. cell_shown (store.values (static n) c.offset) ∷ xs) (cells-same n s cs e h.1)

  from-same : (n : ℕ) (ss : List StaticObject) → ((i : ℕ) (s : StaticObject) → slice_get ss i ≡ Some s → slice_get statics (n + i) ≡ Some s) → variables_from n ss blocks ≡ variables_from n ss store
  from-same n [] h = refl
  from-same n (s ∷ ss) h =
      let plus : n ≡ n + 0 = omega arith in
      ap (λ x. (let v : Variable = record { name = s.name; cells = x } in v) ∷ variables_from (suc n) ss blocks)
      (cells-same n s s.cells (ap (slice_get statics) plus ∙ h 0 s refl) (all-found s.cells))
      ∙ ap (λ xs. (let v : Variable = record { name = s.name; cells = cells_shown (store.values (static n)) s.cells } in v) ∷ xs)
      (from-same (suc n) ss (λ i x e. let next : suc n + i ≡ n + suc i = omega arith in ap (slice_get statics) next ∙ h (suc i) x e))

  pub variables-same : variables statics blocks ≡ variables statics store
  variables-same = from-same 0 statics (λ i s e. let same : 0 + i ≡ i = omega arith in ap (slice_get statics) same ∙ e)
