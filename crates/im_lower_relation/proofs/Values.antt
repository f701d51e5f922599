-- Block code of an expression gives the expression's value.
use Rattle.std.proofs.Common.{◌≡◌, ℕ, suc, ◌+◌, ◌<◌, ◌≤◌, List, [], ◌∷◌, length, take, drop, Bool, true, false, ◌||◌, refl, sym, ap, ◌∙◌, subst, arith}
use Rattle.std.specs.Prelude.{Option, Some, None, ℤ, pos, not, if◌then◌else◌, slice_get}
use Rattle.std.specs.Option.{option_map}
use Rattle.im_num.specs.declared.kind.Kind.{Kind}
use Rattle.im_num.specs.declared.kind.Kind.TheVariants.{Ptr}
use Rattle.im_num.specs.Kinds.{wrap}
use Rattle.im_store.specs.declared.operators.BinaryOp.{BinaryOp}
use Rattle.im_store.specs.Checks.{Fine, then_}
use Rattle.im_store.specs.Numbers.{apply, apply_one}
use Rattle.im_ctype.specs.declared.cell.Cell.{Cell}
use Rattle.im_store.specs.Objects.{Object, static, Value, Number, Null, Pointer, Store}
use Rattle.im_store.specs.Access.{read_cells}
use Rattle.im_store.specs.Pointers.{holds, compare_values, bytes_moved, moved_by, member_at, distance}
use Rattle.im_typed.specs.declared.expression.Change.TheVariants.{Number as NumberBy, Move as PointerBy}
use Rattle.im_typed.specs.Program as q
use Rattle.im_typed.specs.Runs.{World, Answer, Gives, Stops, Run, checked, either}
use Rattle.im_typed.specs.Runs as typed
use Rattle.im_typed.specs.Values.{Values, used, extent, source_for, read_at, write_at, truth}
use Rattle.im_typed.specs.Meaning.{Around, local, place_of, value_of, is_read, stored, source_of, values_of}
use Rattle.im_typed.specs.Typing.{InPlace, IsPart, IsScalarShape, shape_of, result_shape, IsTypedPlace, IsTyped, AreArguments, parameters}
use Rattle.im_typed.specs.Sound.{IsValue, Fits}
use Rattle.im_typed.proofs.Sounds.{value-kept}
use Rattle.im_typed.proofs.SoundCalls.{by-test}
use Rattle.im_typed.proofs.SoundExprs.{takes-kind, there}
use Rattle.im_block.specs.declared.code.Place.TheVariants.{Through}
use Rattle.im_block.specs.declared.code.Line.TheVariants.{PutNull, Address, Move, Distance, Put, Convert, Unary, Not, Compute, Compare, Read, Write, Call, Serve}
use Rattle.im_block.specs.declared.code.Exit.TheVariants.{Jump, Branch}
use Rattle.im_block.specs.declared.code.Block.{Block}
use Rattle.im_block.specs.declared.unit.Registers.TheVariants.{Virtual}
use Rattle.im_block.specs.declared.unit.Function.{Function}
use Rattle.im_block.specs.declared.unit.Unit.{Unit as Code}
use Rattle.im_block.specs.Meaning as m
use Rattle.im_block.specs.Meaning.{Setting, Frame, State, with_register, condition}
use Rattle.im_lower_relation.specs.Codes.{Point, before, ends, Begins, above, count_of, cells_of_shape, offset_in, where_of, CodesPlace, Codes, CodesArguments, static_size, object_size, fills, is_whole, in_groups, CodesTestBy, CodesTest}
use Rattle.im_lower_relation.specs.Agrees.{Agrees, Home, Mark, moved, at, Follows, Does, HasOne, HasCellsOf, Holds, Came, CameAs}
use Rattle.im_lower_relation.proofs.Groups.{Clear, source-clear, whole-clear, in-right, copy-groups}
use Rattle.im_lower_relation.proofs.Structs.{struct-line, part-line, part-cell, part-cells, struct-place, part-shape, if-used}
use Rattle.im_lower_relation.proofs.Steps.{Right, does-later, does-whole, does-bind, does-checked, does-weaker, joined}
use Rattle.im_lower_relation.proofs.Stores.{agree-moved, agree-pointer, taken-kept}
use Rattle.im_lower_relation.proofs.Uses.{register-same, register-other, number-value, condition-of, Took, does-line, does-jump, does-arm, branches, arrived, stands, does-used, does-number, checks}
use Rattle.im_lower_relation.proofs.Operands.{converted-same, computed-same, compared-values, moved-same, distance-same, negated, integer-shape, scalar-shape, right-kind, right-same, one-of_kind}
use Rattle.im_lower_relation.proofs.Places.{above-more, IsPlaceAt, Stood, place-kept, designates}
use Rattle.im_lower_relation.proofs.Cells.{read-line, right-reading, assigned, change-lines, move-lines}
use Rattle.im_lower_relation.proofs.Ready.{HasArguments, Ready, Works, ready-known, ready-took, right-of, right-at, right-placed, right-stored, right-arguments}
use Rattle.im_serve.specs.Services.{row}
use Rattle.im_serve.proofs.Rows.{law_of}
use Rattle.im_typed.proofs.SoundExprs.{given-kind}
use Rattle.im_lower_relation.proofs.Bytes.{get-line, put-line}

-- a function's result is a scalar
holds-kind : (r : Option Kind) (vs : Values) (store : Store) (w : Value) → HasOne vs w → Holds (option_map q.Scalar r) vs store w
holds-kind None vs store w h = tt
holds-kind (Some kind) vs store w h = h

holds-result : (r : Option q.Func) (vs : Values) (store : Store) (w : Value) → HasOne vs w → Holds (result_shape r) vs store w
holds-result None vs store w h = tt
holds-result (Some f) vs store w h = holds-kind f.result vs store w h

-- behind arguments: they stand side by side
pub record Passed (registers : ℕ → Value) (free many : ℕ) (vs : List Value) (t : typed.State) (after : ℕ → Value) (store : Store) : Type 0 where
  pub agrees : Agrees t.world.store store
  pub kept : (x : ℕ) → x < free → after x ≡ registers x
  pub count : length vs ≡ many
  pub has : HasArguments after free vs

-- behind a test: the registers below free are as they were
pub record Decided (p : q.Prog) (f : q.Func) (c : Around) (bound : ℕ) (s : typed.State) (registers : ℕ → Value) (free : ℕ) (t : typed.State) (after : ℕ → Value) (store : Store) : Type 0 where
  pub ready : Ready p f c bound t store
  pub spent : t.fuel ≤ s.fuel
  pub kept : (x : ℕ) → x < free → after x ≡ registers x

module _ (u : Code) (g : Setting) (p : q.Prog) (f : q.Func) (c : Around) (bound : ℕ) (works : Works u g p c bound) (k : ℕ) (callers : List Frame) (fn : Function) (is : slice_get u.functions.items k ≡ Some fn) (virtual : fn.registers ≡ Virtual) where
  abbrev pub home : Home
  home = record { function = k; active = record { number = c.activation; depth = c.depth }; callers = callers }

  abbrev blocks : List Block
  blocks = fn.blocks.items

  right : {store : Store} (e : q.Expr) (s : typed.State) → IsTyped p f e → Ready p f c bound s store → Right p.statics s (Fits (shape_of p e)) (value_of c e s)
  right e s t r = right-of p f c bound works.right works.tame e s t r

  right-as : {store : Store} {shape : Option q.Access} (e : q.Expr) (s : typed.State) → shape_of p e ≡ shape → IsTyped p f e → Ready p f c bound s store → Right p.statics s (Fits shape) (value_of c e s)
  right-as e s same t r = right-at p f c bound works.right works.tame e s same t r

  pub as-shape : {shape other : Option q.Access} {next : Point} {b : State} {registers : ℕ → Value} {to free : ℕ} {r : Answer Values} → shape ≡ other → Does u g p home next b (CameAs shape registers to free) r → Does u g p home next b (CameAs other registers to free) r
  as-shape {next = next} {b = b} {registers = registers} {to = to} {free = free} {r = r} same h = subst (λ x. Does u g p home next b (CameAs x registers to free) r) same h

  -- the value of a scalar expression is used
  pub used-as : {store : Store} {kind : Kind} {next : Point} {b : State} {registers : ℕ → Value} {to free : ℕ} (e : q.Expr) (s : typed.State) → shape_of p e ≡ Some (q.Scalar kind) → IsTyped p f e → Ready p f c bound s store
      → Does u g p home next b (CameAs (shape_of p e) registers to free) (value_of c e s) → Does u g p home next b (Took p.statics s kind registers to free) (typed.goes_on (value_of c e s) used)
  used-as {kind = kind} e s same t r h = does-used u g p home {kind = kind} (right-as e s same t r) (as-shape same h)

  -- an operator gives its result, or the run ends
  does-operator : {next : Point} {b : State} {Q : Values → typed.State → (ℕ → Value) → Store → Type 0} (op : BinaryOp) (kind : Kind) (x y : ℤ) (t : typed.State) (rest : ℤ → Run Values) → ((z : ℤ) → apply op kind x y ≡ Fine z → Does u g p home next b Q (rest z t)) → Does u g p home next b Q (typed.goes_on (c.operates op kind x y t) rest)
  does-operator {next} {b} {Q} op kind x y t rest h =
      subst (λ r. Does u g p home next b Q (typed.goes_on r rest)) (sym (works.operates.by op kind x y t)) (does-checked u g p home (apply op kind x y) t rest h)

  -- a struct that overlaps a whole object, where it is read, is this object
  whole-apart : (a : q.Place) (free : ℕ) (cells : List Cell) (vs : Values) (v w : Value) (x : typed.State) (left store : Store) (registers : ℕ → Value) → IsTypedPlace p f a → IsPlaceAt c a free v store registers → Ready p f c bound x left
      → is_whole p c.first a cells ≡ true → 0 < length cells → (has : HasCellsOf cells vs x.world.store w) → (o : Object) (i : ℕ) → v ≡ Pointer o i → Clear (extent cells) o i has.0 has.1
  whole-apart (q.Static n) free cells vs v w x left store registers t is ready whole some has o i e =
      let found = there p.statics n t in
      whole-clear x.world.store (static n) found.0.size found.0.cells cells vs has.0 has.1 o i (ready.sane.store.live n found.0 found.1) (ready.statics n found.0 found.1)
      (ap (λ r. fills (static_size r) cells) (sym found.1) ∙ whole) has.3 some (sym e ∙ is)
  whole-apart (q.Local n) free cells vs v w x left store registers t is ready whole some has o i e =
      let found = there f.objects n t in
      whole-clear x.world.store (local c n) found.0.size found.0.cells cells vs has.0 has.1 o i (ready.here.live n found.0 found.1) (ready.laid n found.0 found.1)
      (ap (λ r. fills (object_size r) cells) (sym (ready.numbered n found.0 found.1)) ∙ whole) has.3 some (sym e ∙ is)
  whole-apart (q.Target e₁) free cells vs v w x left store registers t is ready whole some has o i e = absurd (cc)
  whole-apart (q.Member a d) free cells vs v w x left store registers t is ready whole some has o i e = absurd (cc)

  groups-apart : (a : q.Place) (e : q.Expr) (free : ℕ) (cells : List Cell) (vs : Values) (v w : Value) (x : typed.State) (left store : Store) (registers : ℕ → Value) → IsTypedPlace p f a → IsPlaceAt c a free v store registers → Ready p f c bound x left
      → in_groups p c.first a cells e ≡ true → 0 < length cells → (has : HasCellsOf cells vs x.world.store w) → (is_read e ≡ true → (o : Object) (i : ℕ) → v ≡ Pointer o i → Clear (extent cells) o i has.0 has.1)
      → (o : Object) (i : ℕ) → v ≡ Pointer o i → Clear (extent cells) o i has.0 has.1
  groups-apart a e free cells vs v w x left store registers t is ready groups some has read =
      by-test {P = (o : Object) (i : ℕ) → v ≡ Pointer o i → Clear (extent cells) o i has.0 has.1} (is_whole p c.first a cells)
      (λ whole. whole-apart a free cells vs v w x left store registers t is ready whole some has)
      (λ part. read (sym (ap (λ b. b || is_read e) part) ∙ groups))

  -- behind the value of a struct's assignment: the register has the address of what is stored, and what is read is apart from the target
  record Sourced (count : ℕ) (cells : List Cell) (v : Value) (read : Bool) (registers : ℕ → Value) (to free : ℕ) (vs : Values) (t : typed.State) (after : ℕ → Value) (left : Store) : Type 0 where
    came : CameAs (Some (q.Struct count cells)) registers to free vs t after left
    clear : read ≡ true → (o : Object) (i : ℕ) → v ≡ Pointer o i → Clear (extent cells) o i came.has.0 came.has.1

  -- the values of an expression
  abbrev Gains : q.Expr → (to free : ℕ) → (entry next : Point) → Type 0
  Gains e to free entry next =
      (n : Mark) (registers : ℕ → Value) (store : Store) (s : typed.State) → Ready p f c bound s store → Does u g p home next (at home n entry registers store s) (CameAs (shape_of p e) registers to free) (value_of c e s)

  abbrev Lowers : q.Expr → Type 0
  Lowers e = (to free : ℕ) (entry next : Point) → to < free → Codes p c.first blocks e to free entry next → Gains e to free entry next

  abbrev Behind : typed.State → (ℕ → Value) → ℕ → typed.State → (ℕ → Value) → Store → Type 0
  Behind s registers free t after left = Decided p f c bound s registers free t after left

  -- a test goes on at one of two points
  abbrev pub Tests : q.Expr → ℕ → (entry one other : Point) → Type 0
  Tests e free entry one other =
      (n : Mark) (registers : ℕ → Value) (store : Store) (s : typed.State) → Ready p f c bound s store
      → Follows u g p home (λ v. if holds v then one else other) (at home n entry registers store s) (λ v. Behind s registers free) (typed.goes_on (value_of c e s) used)

  -- a value decides, by a branch
  by-value : (e : q.Expr) (free x y : ℕ) (entry one other : Point) → Gains e free (free + 1) entry (ends (Branch free x y)) → IsTyped p f e → IsScalarShape (shape_of p e) → Begins blocks x one → Begins blocks y other → Tests e free entry one other
  by-value e free x y entry one other gains t scalar begins_one begins_other n registers store s ready =
      let k = scalar-shape (shape_of p e) scalar in
      does-whole u g p home
      (does-bind u g p home
      (used-as e s k.1 t ready (gains n registers store s ready))
      (λ v w n₁ after left took.
      does-later u g p home
      (branches u g p home fn is free x y one other n₁ after left w (holds v) begins_one begins_other
      (ap (condition left) took.has ∙ condition-of w.world.activations w.world.store left k.0 v took.agrees took.value took.taken))
      (stands u g p home (λ v. if holds v then one else other) (moved n₁ (if holds v then x else y)) after left w v (record {
        ready = ready-took p f c bound ready took;
        spent = took.spent;
        kept = λ i l. took.kept i (omega arith) (λ e. omega arith);
      }))))

  -- a truth value, at the point where it leads
  abbrev point_of : Point → Point → Values → Point
  point_of one other [] = other
  point_of one other (v ∷ vs) = if holds v then one else other

  record Shown (s : typed.State) (registers : ℕ → Value) (free : ℕ) (vs : Values) (t : typed.State) (after : ℕ → Value) (left : Store) : Type 0 where
    answer : Bool
    same : vs ≡ Number (if answer then pos 1 else pos 0) ∷ []
    behind : Behind s registers free t after left

  shows : (one other : Point) (s : typed.State) (base : ℕ → Value) (free : ℕ) (answer : Bool) (n : Mark) (after : ℕ → Value) (left : Store) (t : typed.State) → Behind s base free t after left
      → Follows u g p home (point_of one other) (at home n (if answer then one else other) after left t) (Shown s base free) (truth answer t)
  shows one other s base free true n after left t behind =
      stands u g p home (point_of one other) n after left t (Number (pos 1) ∷ []) (record { answer = true; same = refl; behind = behind })
  shows one other s base free false n after left t behind =
      stands u g p home (point_of one other) n after left t (Number (pos 0) ∷ []) (record { answer = false; same = refl; behind = behind })

  shows-not : (one other : Point) (s : typed.State) (base : ℕ → Value) (free : ℕ) (answer : Bool) (n : Mark) (after : ℕ → Value) (left : Store) (t : typed.State) → Behind s base free t after left
      → Follows u g p home (point_of one other) (at home n (if answer then other else one) after left t) (Shown s base free) (truth (not answer) t)
  shows-not one other s base free true n after left t behind = shows one other s base free false n after left t behind
  shows-not one other s base free false n after left t behind = shows one other s base free true n after left t behind

  uses-shown : (one other : Point) (s : typed.State) (base : ℕ → Value) (free : ℕ) (vs : Values) (n : Mark) (after : ℕ → Value) (left : Store) (t : typed.State) → Shown s base free vs t after left
      → Follows u g p home (λ v. if holds v then one else other) (at home n (point_of one other vs) after left t) (λ v. Behind s base free) (used vs t)
  uses-shown one other s base free vs n after left t shown =
      subst (λ ws. Follows u g p home (λ v. if holds v then one else other) (at home n (point_of one other ws) after left t) (λ v. Behind s base free) (used ws t)) (sym shown.same)
      (by-answer shown.answer)
    where
      by-answer : (answer : Bool) → Follows u g p home (λ v. if holds v then one else other) (at home n (if holds (Number (if answer then pos 1 else pos 0)) then one else other) after left t) (λ v. Behind s base free) (used (Number (if answer then pos 1 else pos 0) ∷ []) t)
      by-answer true = stands u g p home (λ v. if holds v then one else other) n after left t (Number (pos 1)) shown.behind
      by-answer false = stands u g p home (λ v. if holds v then one else other) n after left t (Number (pos 0)) shown.behind

  -- a test whose value is a truth value
  by-truth : (e : q.Expr) (free : ℕ) (entry one other : Point)
      → ((n : Mark) (registers : ℕ → Value) (store : Store) (s : typed.State) → Ready p f c bound s store → Follows u g p home (point_of one other) (at home n entry registers store s) (Shown s registers free) (value_of c e s))
      → Tests e free entry one other
  by-truth e free entry one other does n registers store s ready =
      does-bind u g p home (does n registers store s ready)
      (λ vs t n₁ after left shown. uses-shown one other s registers free vs n₁ after left t shown)

  -- the left operand of `&&` or `||`, and the right one where that doesn't decide
  abbrev Ends : {A : Type 0} → (A → Point) → (A → typed.State → (ℕ → Value) → Store → Type 0) → (one other : Point) → typed.State → (ℕ → Value) → ℕ → (Bool → Run A) → Type 0
  Ends next P one other s base free ends_with =
      (answer : Bool) (n : Mark) (after : ℕ → Value) (left : Store) (t : typed.State) → Behind s base free t after left → Follows u g p home next (at home n (if answer then one else other) after left t) P (ends_with answer t)

  behind-more : {s t v : typed.State} {base after after₂ : ℕ → Value} {free : ℕ} {left left₂ : Store} → Behind s base free t after left → Behind t after free v after₂ left₂ → Behind s base free v after₂ left₂
  behind-more one two =
      let spent = one.spent in
      let more = two.spent in
      record { ready = two.ready; spent = omega arith; kept = λ i l. two.kept i l ∙ one.kept i l }

  second : {A : Type 0} {next : A → Point} {P : A → typed.State → (ℕ → Value) → Store → Type 0} (b : q.Expr) (free : ℕ) (more one other : Point) (ends_with : Bool → Run A) (s t : typed.State) (base after : ℕ → Value) (left : Store) (n : Mark)
      → Tests b free more one other → Ends next P one other s base free ends_with → Behind s base free t after left
      → Follows u g p home next (at home n more after left t) P (typed.goes_on (typed.goes_on (value_of c b t) used) (λ y. ends_with (holds y)))
  second b free more one other ends_with s t base after left n tests go behind =
      does-bind u g p home (tests n after left t behind.ready)
      (λ y v n₁ after₁ left₁ behind₁. go (holds y) n₁ after₁ left₁ v (behind-more behind behind₁))

  and-goes : {A : Type 0} {next : A → Point} {P : A → typed.State → (ℕ → Value) → Store → Type 0} (a b : q.Expr) (free : ℕ) (entry more one other : Point) (ends_with : Bool → Run A) (n : Mark) (registers : ℕ → Value) (store : Store) (s : typed.State)
      → Tests a free entry more other → Tests b free more one other → Ready p f c bound s store → Ends next P one other s registers free ends_with
      → Follows u g p home next (at home n entry registers store s) P (typed.goes_on (typed.goes_on (value_of c a s) used) (λ x. either (holds x) (λ t. typed.goes_on (typed.goes_on (value_of c b t) used) (λ y. ends_with (holds y))) (ends_with false)))
  and-goes {next = next} {P = P} a b free entry more one other ends_with n registers store s tests_a tests_b ready go =
      does-bind u g p home (tests_a n registers store s ready)
      (λ x t n₁ after left behind. by-answer (holds x) t n₁ after left behind)
    where
      by-answer : (answer : Bool) (t : typed.State) (n : Mark) (after : ℕ → Value) (left : Store) → Behind s registers free t after left
          → Follows u g p home next (at home n (if answer then more else other) after left t) P (either answer (λ t. typed.goes_on (typed.goes_on (value_of c b t) used) (λ y. ends_with (holds y))) (ends_with false) t)
      by-answer true t n after left behind = second b free more one other ends_with s t registers after left n tests_b go behind
      by-answer false t n after left behind = go false n after left t behind

  or-goes : {A : Type 0} {next : A → Point} {P : A → typed.State → (ℕ → Value) → Store → Type 0} (a b : q.Expr) (free : ℕ) (entry more one other : Point) (ends_with : Bool → Run A) (n : Mark) (registers : ℕ → Value) (store : Store) (s : typed.State)
      → Tests a free entry one more → Tests b free more one other → Ready p f c bound s store → Ends next P one other s registers free ends_with
      → Follows u g p home next (at home n entry registers store s) P (typed.goes_on (typed.goes_on (value_of c a s) used) (λ x. either (holds x) (ends_with true) (λ t. typed.goes_on (typed.goes_on (value_of c b t) used) (λ y. ends_with (holds y)))))
  or-goes {next = next} {P = P} a b free entry more one other ends_with n registers store s tests_a tests_b ready go =
      does-bind u g p home (tests_a n registers store s ready)
      (λ x t n₁ after left behind. by-answer (holds x) t n₁ after left behind)
    where
      by-answer : (answer : Bool) (t : typed.State) (n : Mark) (after : ℕ → Value) (left : Store) → Behind s registers free t after left
          → Follows u g p home next (at home n (if answer then one else more) after left t) P (either answer (ends_with true) (λ t. typed.goes_on (typed.goes_on (value_of c b t) used) (λ y. ends_with (holds y))) t)
      by-answer true t n after left behind = go true n after left t behind
      by-answer false t n after left behind = second b free more one other ends_with s t registers after left n tests_b go behind

  -- the blocks of a truth value put it into the register
  abbrev puts : ℕ → ℕ → ℤ → Point
  puts to j z = before (Put to z) (ends (Jump j))

  gives-truth : (to free j : ℕ) (next : Point) (s : typed.State) (base : ℕ → Value) → to < free → Begins blocks j next
      → Ends (λ vs. next) (Came base to free) (puts to j (pos 1)) (puts to j (pos 0)) s base free truth
  gives-truth to free j next s base lt begins answer n after left t behind = by-answer answer
    where
      number : (z : ℤ) → Does u g p home next (at home n (puts to j z) after left t) (Came base to free) (Gives (Number z ∷ []) t)
      number z =
          does-line u g p home (Put to z) (ends (Jump j)) n after left t to (Fine (Number z)) (Number z) refl refl
          (does-jump u g p home fn is j next n (with_register after to (Number z)) left t begins
          (arrived u g p home next (moved n j) base after to free (Number z) left t behind.ready.agrees (λ i l ne. behind.kept i l)))

      by-answer : (answer : Bool) → Does u g p home next (at home n (if answer then puts to j (pos 1) else puts to j (pos 0)) after left t) (Came base to free) (truth answer t)
      by-answer true = number (pos 1)
      by-answer false = number (pos 0)

  -- a test decides between two runs
  pub decided : {A : Type 0} {next : A → Point} {P : A → typed.State → (ℕ → Value) → Store → Type 0} (e : q.Expr) (free : ℕ) (entry one other : Point) (n : Mark) (registers : ℕ → Value) (store : Store) (s : typed.State) (a b : Run A)
      → Tests e free entry one other → Ready p f c bound s store
      → ((i : Mark) (rs : ℕ → Value) (left : Store) (t : typed.State) → Decided p f c bound s registers free t rs left → Follows u g p home next (at home i one rs left t) P (a t))
      → ((i : Mark) (rs : ℕ → Value) (left : Store) (t : typed.State) → Decided p f c bound s registers free t rs left → Follows u g p home next (at home i other rs left t) P (b t))
      → Follows u g p home next (at home n entry registers store s) P (typed.goes_on (typed.goes_on (value_of c e s) used) (λ v. either (holds v) a b))
  decided {next = next} {P = P} e free entry one other n registers store s a b tests ready held failed =
      does-bind u g p home (tests n registers store s ready)
      (λ v t n₁ after left behind. by-answer (holds v) t n₁ after left behind)
    where
      by-answer : (answer : Bool) (t : typed.State) (n : Mark) (after : ℕ → Value) (left : Store) → Behind s registers free t after left
          → Follows u g p home next (at home n (if answer then one else other) after left t) P (either answer a b t)
      by-answer true t n after left behind = held n after left t behind
      by-answer false t n after left behind = failed n after left t behind

  mutual
    placed : (a : q.Place) (free : ℕ) (entry next : Point) → IsTypedPlace p f a → CodesPlace p c.first blocks a free entry next
        → (n : Mark) (registers : ℕ → Value) (store : Store) (s : typed.State) → Ready p f c bound s store → Does u g p home next (at home n entry registers store s) (Stood c a free registers) (place_of c a s)
    placed (q.Static o) free entry next t codes n registers store s ready =
        subst (λ x. Does u g p home next (at home n x registers store s) (Stood c (q.Static o) free registers) (place_of c (q.Static o) s)) (sym codes)
        (stands u g p home (λ _. next) n registers store s _ (record { agrees = ready.agrees; kept = λ x lt. refl; is = refl }))
    placed (q.Local o) free entry next t codes n registers store s ready =
        subst (λ x. Does u g p home next (at home n x registers store s) (Stood c (q.Local o) free registers) (place_of c (q.Local o) s)) (sym codes)
        (stands u g p home (λ _. next) n registers store s _ (record { agrees = ready.agrees; kept = λ x lt. refl; is = refl }))
    placed (q.Target e) free entry next t codes n registers store s ready =
        does-weaker u g p home (λ v w after left took. record { agrees = took.agrees; kept = λ x l. took.kept x (omega arith) (λ e. omega arith); is = took.has })
        (used-as {kind = Ptr} e s t.1 t.0 ready
        (lowered e free (free + 1) entry next (omega arith) t.0 codes n registers store s ready))
    placed (q.Member a d) free entry next t codes n registers store s ready =
        does-bind u g p home (placed a free entry next t.0 codes n registers store s ready)
        (λ v w n₁ after left stood.
        checks u g p home next n₁ after left w (member_at w.world.store d v)
        (λ x e. record { agrees = stood.agrees; kept = stood.kept; is = (v, stood.is, e) }))

    pub lowered : (e : q.Expr) (to free : ℕ) (entry next : Point) → to < free → IsTyped p f e → Codes p c.first blocks e to free entry next → Gains e to free entry next
    lowered (q.Constant kind z) to free entry next lt t codes n registers store s ready =
        subst (λ x. Does u g p home next (at home n x registers store s) (Came registers to free) (value_of c (q.Constant kind z) s)) (sym codes)
        (does-line u g p home (Put to z) next n registers store s to (Fine (Number z)) (Number z) refl refl
        (arrived u g p home next n registers registers to free (Number z) store s ready.agrees (λ _ _ _. refl)))
    lowered (q.Read (q.Scalar kind) a) to free entry next lt t codes n registers store s ready =
        does-bind u g p home (placed a free entry (before (Read to (where_of p c.first blocks a free) kind codes.0) next) t.1 codes.1 n registers store s ready)
        (λ v w n₁ after left stood.
        read-line u g p home v (where_of p c.first blocks a free) kind codes.0 to free n₁ next registers after left w (designates c p blocks a free v w.world.store left after stood.agrees stood.is) stood.agrees (λ x l ne. stood.kept x l))
    lowered (q.Read (q.Struct count cells) a) to free entry next lt t codes n registers store s ready =
        let place = where_of p c.first blocks a free in
        does-bind u g p home (placed a free entry (before (Address to place) next) t.1 codes n registers store s ready)
        (λ v w n₁ after left stood.
        does-weaker u g p home (λ vs x last other k. k.0)
        (struct-line u g p home v place count cells to free n₁ next registers after left w (designates c p blocks a free v w.world.store left after stood.agrees stood.is) stood.agrees (λ x l ne. stood.kept x l)))
    lowered (q.Convert kind e) to free entry next lt t codes n registers store s ready =
        let i = integer-shape (shape_of p e) t.2 in
        does-number u g p home i.2
        (used-as e s i.1 t.1 ready
        (lowered e to free entry (before (Convert to kind to) next) lt t.1 codes n registers store s ready))
        (λ z v b after left h took.
        does-line u g p home (Convert to kind to) next b after left v to (m.as_number (m.converted kind (after to))) (Number (wrap kind z)) refl
        (ap (λ x. m.as_number (m.converted kind x)) took.has)
        (arrived u g p home next b registers after to free (Number (wrap kind z)) left v took.agrees
        (λ x l ne. took.kept x l ne)))
    lowered (q.Unary op kind e) to free entry next lt t codes n registers store s ready =
        does-number u g p home t.0.0
        (used-as e s t.2 t.1 ready
        (lowered e free (free + 1) entry (before (Unary to op kind free) next) (omega arith) t.1 codes n registers store s ready))
        (λ z v b after left h took.
        does-line u g p home (Unary to op kind free) next b after left v to (m.as_number (m.computed_one op kind (after free))) (Number (apply_one op kind z)) refl
        (ap (λ r. m.as_number (then_ r (λ a. Fine (apply_one op kind a)))) (converted-same kind (after free) z took.has h))
        (arrived u g p home next b registers after to free (Number (apply_one op kind z)) left v took.agrees
        (λ x l ne. took.kept x (omega arith) (λ e. omega arith))))
    lowered (q.Binary op kind a b) to free entry next lt t codes n registers store s ready =
        let r = right-kind op kind (shape_of p b) t.0.0 t.4 in
        does-number u g p home t.0.0
        (used-as a s t.3 t.1 ready
        (lowered a free (free + 1) entry codes.0 (omega arith) t.1 codes.1 n registers store s ready))
        (λ x v n₁ after left hx took.
        does-number u g p home r.2
        (used-as b v r.1 t.2 (ready-took p f c bound ready took)
        (lowered b (free + 1) (free + 2) codes.0 (before (Compute to op kind free (free + 1)) next) (omega arith) t.2 codes.2 n₁ after left v (ready-took p f c bound ready took)))
        (λ y w n₂ after₂ left₂ hy took₂.
        does-operator op kind x y w _ (λ z e.
        does-line u g p home (Compute to op kind free (free + 1)) next n₂ after₂ left₂ w to (m.as_number (m.computed op kind (after₂ free) (after₂ (free + 1)))) (Number z) refl
        (computed-same op kind (after₂ free) (after₂ (free + 1)) x y z (took₂.kept free (omega arith) (λ e. omega arith) ∙ took.has) took₂.has hx (r.3 y hy) e)
        (arrived u g p home next n₂ registers after₂ to free (Number z) left₂ w took₂.agrees
        (λ i l ne. took₂.kept i (omega arith) (λ e. omega arith) ∙ took.kept i (omega arith) (λ e. omega arith))))))
    lowered (q.Compare op kind a b) to free entry next lt t codes n registers store s ready =
        does-bind u g p home
        (used-as a s t.2 t.0 ready
        (lowered a free (free + 1) entry codes.0 (omega arith) t.0 codes.1 n registers store s ready))
        (λ vx v n₁ after left took.
        does-bind u g p home
        (used-as b v t.3 t.1 (ready-took p f c bound ready took)
        (lowered b (free + 1) (free + 2) codes.0 (before (Compare to op kind free (free + 1)) next) (omega arith) t.1 codes.2 n₁ after left v (ready-took p f c bound ready took)))
        (λ vy w n₂ after₂ left₂ took₂.
        does-checked u g p home (compare_values op vx vy) w _ (λ answer e.
        does-line u g p home (Compare to op kind free (free + 1)) next n₂ after₂ left₂ w to (m.as_truth (m.compared left₂ op kind (after₂ free) (after₂ (free + 1)))) (Number (if answer then pos 1 else pos 0)) refl
        (compared-values w.world.activations w.world.store left₂ op kind (after₂ free) (after₂ (free + 1)) vx vy answer (took₂.kept free (omega arith) (λ e. omega arith) ∙ took.has) took₂.has (value-kept took₂.keeps kind vx took.value) took₂.value
        (λ k. agree-pointer w.world.store left₂ took₂.agrees w.world.activations vx (subst (λ x. IsValue w.world.activations w.world.store x vx) k (value-kept took₂.keeps kind vx took.value)) (taken-kept v.world.store w.world.store vx took₂.keeps.same took.taken))
        (λ k. agree-pointer w.world.store left₂ took₂.agrees w.world.activations vy (subst (λ x. IsValue w.world.activations w.world.store x vy) k took₂.value) took₂.taken) e)
        (arrived u g p home next n₂ registers after₂ to free (Number (if answer then pos 1 else pos 0)) left₂ w took₂.agrees
        (λ i l ne. took₂.kept i (omega arith) (λ e. omega arith) ∙ took.kept i (omega arith) (λ e. omega arith))))))
    lowered (q.Not a) to free entry next lt t codes n registers store s ready =
        let k = scalar-shape (shape_of p a) t.1 in
        does-bind u g p home
        (used-as a s k.1 t.0 ready
        (lowered a free (free + 1) entry (before (Not to free) next) (omega arith) t.0 codes n registers store s ready))
        (λ x v n₁ after left took.
        does-line u g p home (Not to free) next n₁ after left v to (m.as_truth (m.negation left (after free))) (Number (if not (holds x) then pos 1 else pos 0)) refl
        (negated left (after free) (holds x) (ap (condition left) took.has ∙ condition-of v.world.activations v.world.store left k.0 x took.agrees took.value took.taken))
        (arrived u g p home next n₁ registers after to free (Number (if not (holds x) then pos 1 else pos 0)) left v took.agrees
        (λ i l ne. took.kept i (omega arith) (λ e. omega arith))))
    lowered (q.Comma a b) to free entry next lt t codes n registers store s ready =
        does-bind u g p home
        (joined u g p home (right a s t.0 ready)
        (lowered a to free entry codes.0 lt t.0 codes.1 n registers store s ready))
        (λ vs v n₁ after left k.
        does-weaker u g p home (λ ws w after₂ left₂ came. record { agrees = came.agrees; kept = λ i l ne. came.kept i l ne ∙ k.1.kept i l ne; has = came.has })
        (lowered b to free codes.0 next lt t.1 codes.2 n₁ after left v (ready-known p f c bound ready k.0 k.1.agrees)))
    lowered (q.Discard a) to free entry next lt t codes n registers store s ready =
        does-bind u g p home (lowered a to free entry next lt t codes n registers store s ready)
        (λ vs v n₁ after left came. stands u g p home (λ _. next) n₁ after left v [] (record { agrees = came.agrees; kept = came.kept; has = tt }))
    lowered (q.Choose x a b) to free entry next lt t codes n registers store s ready =
        decided x free entry codes.3 codes.4 n registers store s (value_of c a) (value_of c b)
        (tested-by x (λ to free entry next lt codes. lowered x to free entry next lt t.0 codes) free codes.1 codes.2 entry codes.3 codes.4 t.0 t.3 codes.8 codes.6 codes.7) ready
        (λ i after left w behind.
        does-arm u g p home fn is codes.0 next codes.5
        (does-weaker u g p home (λ ws y after₂ left₂ came. record { agrees = came.agrees; kept = λ i l ne. came.kept i l ne ∙ behind.kept i l; has = came.has })
        (lowered a to free codes.3 (ends (Jump codes.0)) lt t.1 codes.9 i after left w behind.ready)))
        (λ i after left w behind.
        does-arm u g p home fn is codes.0 next codes.5
        (does-weaker u g p home (λ ws y after₂ left₂ came. record { agrees = came.agrees; kept = λ i l ne. came.kept i l ne ∙ behind.kept i l; has = came.has })
        (as-shape (sym t.4) (lowered b to free codes.4 (ends (Jump codes.0)) lt t.2 codes.10 i after left w behind.ready))))
    lowered (q.And a b) to free entry next lt t codes n registers store s ready =
        and-goes a b free entry codes.4 (puts to codes.0 (pos 1)) (puts to codes.0 (pos 0)) truth n registers store s
        (tested-by a (λ to free entry next lt codes. lowered a to free entry next lt t.0 codes) free codes.3 codes.2 entry codes.4 (puts to codes.0 (pos 0)) t.0 t.2 codes.9 codes.8 codes.7)
        (tested-by b (λ to free entry next lt codes. lowered b to free entry next lt t.1 codes) free codes.1 codes.2 codes.4 (puts to codes.0 (pos 1)) (puts to codes.0 (pos 0)) t.1 t.3 codes.10 codes.6 codes.7)
        ready (gives-truth to free codes.0 next s registers lt codes.5)
    lowered (q.Or a b) to free entry next lt t codes n registers store s ready =
        or-goes a b free entry codes.4 (puts to codes.0 (pos 1)) (puts to codes.0 (pos 0)) truth n registers store s
        (tested-by a (λ to free entry next lt codes. lowered a to free entry next lt t.0 codes) free codes.1 codes.3 entry (puts to codes.0 (pos 1)) codes.4 t.0 t.2 codes.9 codes.6 codes.8)
        (tested-by b (λ to free entry next lt codes. lowered b to free entry next lt t.1 codes) free codes.1 codes.2 codes.4 (puts to codes.0 (pos 1)) (puts to codes.0 (pos 0)) t.1 t.3 codes.10 codes.6 codes.7)
        ready (gives-truth to free codes.0 next s registers lt codes.5)
    lowered (q.Assign (q.Scalar kind) a e) to free entry next lt t codes n registers store s ready =
        let more = above-more a free in
        does-bind u g p home
        (joined u g p home (right-placed p f c bound works.right works.tame a s t.1 ready) (placed a free entry codes.0 t.1 codes.2 n registers store s ready))
        (λ v w n₁ after left stood.
        does-bind u g p home
        (joined u g p home (right-as e w t.3 t.2 (ready-known p f c bound ready stood.0 stood.1.agrees))
        (as-shape t.3 (lowered e to (above a free) codes.0 (before (Write (where_of p c.first blocks a free) kind to codes.1) next) (omega arith) t.2 codes.3 n₁ after left w (ready-known p f c bound ready stood.0 stood.1.agrees))))
        (λ vs x n₂ after₂ left₂ k.
        assigned u g p home v (where_of p c.first blocks a free) kind codes.1 to free n₂ next registers after₂ left₂ vs x
        (designates c p blocks a free v x.world.store left₂ after₂ k.1.agrees (place-kept c a free v w.world.store x.world.store after after₂ k.0.keeps.same (λ i ge l. k.1.kept i l (λ e. omega arith)) stood.1.is))
        k.0.fits
        (record { agrees = k.1.agrees; kept = λ i l ne. k.1.kept i (omega arith) ne ∙ stood.1.kept i l; has = k.1.has })))
    lowered (q.Assign (q.Struct count cells) a e) to free entry next lt t codes n registers store s ready =
        let more = above-more a free in
        let top = above a free in
        let place = where_of p c.first blocks a free in
        let last = before (Address to place) next in
        does-bind u g p home
        (joined u g p home (right-placed p f c bound works.right works.tame a s t.1 ready) (placed a free entry codes.0 t.1 codes.4 n registers store s ready))
        (λ v w n₁ after left stood.
        does-bind u g p home
        (joined u g p home (right-stored p f c bound works.right works.tame count cells v e w t.3 t.2 (ready-known p f c bound ready stood.0 stood.1.agrees))
        (sourced e (λ to free entry next lt codes. lowered e to free entry next lt t.2 codes) count cells v top codes.0 codes.1 t.2 t.3 codes.5 n₁ after left w (ready-known p f c bound ready stood.0 stood.1.agrees)))
        (λ vs x n₂ after₂ left₂ k.
        if-used vs x (write_at (q.Struct count cells) v vs)
        (λ r. Does u g p home next (at home n₂ codes.1 after₂ left₂ x) (CameAs (Some (q.Struct count cells)) registers to free) r) (λ why. record { by = tt })
        (does-whole u g p home
        (does-bind u g p home
        (copy-groups u g p home n₂ x v place count 1048576 codes.2 cells vs top codes.1 last after₂ left₂
        (λ mid lf rs same kept ag. designates c p blocks a free v mid lf rs ag (place-kept c a free v w.world.store mid after rs (λ o. same o ∙ k.0.keeps.same o) (λ i ge l. kept i (omega arith) ∙ k.1.came.kept i (omega arith) (λ e. omega arith)) stood.1.is))
        k.1.came.agrees t.0.2 codes.6 k.1.came.has k.0.fits
        (in-right codes.3 (λ groups. groups-apart a e free cells vs v (after₂ top) x left₂ w.world.store after t.1 stood.1.is (ready-known p f c bound (ready-known p f c bound ready stood.0 stood.1.agrees) k.0 k.1.came.agrees) groups (let counted = t.0.0 in let some = t.0.1 in omega arith) k.1.came.has k.1.clear)))
        (λ ws y n₃ after₃ left₃ copied.
        does-line u g p home (Address to place) next n₃ after₃ left₃ y to (m.place_of place home.active after₃ left₃) v refl
        (designates c p blocks a free v y.world.store left₃ after₃ copied.agrees (place-kept c a free v w.world.store y.world.store after after₃ (λ o. copied.shapes o ∙ k.0.keeps.same o) (λ i ge l. copied.kept i (omega arith) ∙ k.1.came.kept i (omega arith) (λ e. omega arith)) stood.1.is))
        (stands u g p home (λ _. next) n₃ (with_register after₃ to v) left₃ y ws (record {
          agrees = copied.agrees;
          kept = λ q l ne. register-other after₃ to q v ne ∙ copied.kept q (omega arith) ∙ k.1.came.kept q (omega arith) (λ e. omega arith) ∙ stood.1.kept q l;
          has = (copied.has.0, copied.has.1, register-same after₃ to v ∙ copied.has.2, copied.has.3);
        })))))))
    lowered (q.Update a (NumberBy kind op at_kind) e) to free entry next lt t codes n registers store s ready =
        let more = above-more a free in
        let r = right-kind op at_kind (shape_of p e) t.2.1.0 t.2.2 in
        let top = above a free in
        let place = where_of p c.first blocks a free in
        does-bind u g p home
        (joined u g p home (right-placed p f c bound works.right works.tame a s t.0 ready) (placed a free entry (before (Read to place kind codes.1) codes.0) t.0 codes.3 n registers store s ready))
        (λ v w n₁ after left stood.
        let one = ready-known p f c bound ready stood.0 stood.1.agrees in
        does-bind u g p home
        (does-used u g p home (right-reading u g p home v kind w one.sane)
        (read-line u g p home v place kind codes.1 to top n₁ codes.0 after after left w (designates c p blocks a free v w.world.store left after stood.1.agrees stood.1.is) stood.1.agrees (λ _ _ _. refl)))
        (λ first x n₂ after₂ left₂ took.
        let two = ready-took p f c bound one took in
        let num = number-value x.world.activations x.world.store kind first t.2.0 took.value in
        does-number u g p home r.2
        (used-as e x r.1 t.1 two
        (lowered e top (top + 1) codes.0 (before (Compute to op at_kind to top) (before (Convert to kind to) (before (Write place kind to codes.2) next))) (omega arith) t.1 codes.4 n₂ after₂ left₂ x two))
        (λ by y n₃ after₃ left₃ hb took₃.
        change-lines u g p home c.operates works.operates v place kind op at_kind false codes.2 to to top free n₃ next registers after₃ left₃ first num.0 by y t.2.0 num.1
        (λ i j. designates c p blocks a free v y.world.store left₃ _ took₃.agrees (place-kept c a free v w.world.store y.world.store after _ (λ o. took₃.keeps.same o ∙ took.keeps.same o)
        (λ z ge l. register-other (with_register after₃ to i) to z j (λ e. omega arith) ∙ register-other after₃ to z i (λ e. omega arith) ∙ took₃.kept z (omega arith) (λ e. omega arith) ∙ took.kept z l (λ e. omega arith)) stood.1.is))
        took₃.agrees (took₃.kept to (omega arith) (λ e. omega arith) ∙ took.has) took₃.has (r.3 by hb)
        (λ z l ne. took₃.kept z (omega arith) (λ e. omega arith) ∙ took.kept z (omega arith) ne ∙ stood.1.kept z l)
        (λ z l ne. ne)
        (λ i j. register-same (with_register after₃ to i) to j))))
    lowered (q.Update a (PointerBy size back) e) to free entry next lt t codes n registers store s ready =
        let more = above-more a free in
        let r = integer-shape (shape_of p e) t.2.1 in
        let top = above a free in
        let place = where_of p c.first blocks a free in
        does-bind u g p home
        (joined u g p home (right-placed p f c bound works.right works.tame a s t.0 ready) (placed a free entry (before (Read to place Ptr codes.1) codes.0) t.0 codes.3 n registers store s ready))
        (λ v w n₁ after left stood.
        let one = ready-known p f c bound ready stood.0 stood.1.agrees in
        does-bind u g p home
        (does-used u g p home {kind = Ptr} (right-reading u g p home v Ptr w one.sane)
        (read-line u g p home v place Ptr codes.1 to top n₁ codes.0 after after left w (designates c p blocks a free v w.world.store left after stood.1.agrees stood.1.is) stood.1.agrees (λ _ _ _. refl)))
        (λ first x n₂ after₂ left₂ took.
        let two = ready-took p f c bound one took in
        does-number u g p home r.2
        (used-as e x r.1 t.1 two
        (lowered e top (top + 1) codes.0 (before (Move to size back to top) (before (Write place Ptr to codes.2) next)) (omega arith) t.1 codes.4 n₂ after₂ left₂ x two))
        (λ by y n₃ after₃ left₃ hb took₃.
        move-lines u g p home c.operates v place size back false codes.2 to to top free n₃ next registers after₃ left₃ first by y took₃.sane
        (λ i. designates c p blocks a free v y.world.store left₃ _ took₃.agrees (place-kept c a free v w.world.store y.world.store after _ (λ o. took₃.keeps.same o ∙ took.keeps.same o)
        (λ z ge l. register-other after₃ to z i (λ e. omega arith) ∙ took₃.kept z (omega arith) (λ e. omega arith) ∙ took.kept z l (λ e. omega arith)) stood.1.is))
        took₃.agrees (took₃.kept to (omega arith) (λ e. omega arith) ∙ took.has) took₃.has
        (λ z l ne. took₃.kept z (omega arith) (λ e. omega arith) ∙ took.kept z (omega arith) ne ∙ stood.1.kept z l)
        (λ z l ne. ne)
        (λ i. register-same after₃ to i))))
    lowered (q.Increment a (NumberBy kind op at_kind) false) to free entry next lt t codes n registers store s ready =
        let more = above-more a free in
        let top = above a free in
        let place = where_of p c.first blocks a free in
        does-bind u g p home
        (joined u g p home (right-placed p f c bound works.right works.tame a s t.0 ready)
        (placed a free entry (before (Read to place kind codes.0) (before (Put top (pos 1)) (before (Compute to op at_kind to top) (before (Convert to kind to) (before (Write place kind to codes.1) next))))) t.0 codes.2 n registers store s ready))
        (λ v w n₁ after left stood.
        does-bind u g p home
        (does-used u g p home (right-reading u g p home v kind w stood.0.sane)
        (read-line u g p home v place kind codes.0 to top n₁ (before (Put top (pos 1)) (before (Compute to op at_kind to top) (before (Convert to kind to) (before (Write place kind to codes.1) next)))) after after left w (designates c p blocks a free v w.world.store left after stood.1.agrees stood.1.is) stood.1.agrees (λ _ _ _. refl)))
        (λ first x n₂ after₂ left₂ took.
        let num = number-value x.world.activations x.world.store kind first t.1.0 took.value in
        let rs = with_register after₂ top (Number (pos 1)) in
        does-line u g p home (Put top (pos 1)) (before (Compute to op at_kind to top) (before (Convert to kind to) (before (Write place kind to codes.1) next))) n₂ after₂ left₂ x top (Fine (Number (pos 1))) (Number (pos 1)) refl refl
        (change-lines u g p home c.operates works.operates v place kind op at_kind false codes.1 to to top free n₂ next registers rs left₂ first num.0 (pos 1) x t.1.0 num.1
        (λ i j. designates c p blocks a free v x.world.store left₂ _ took.agrees (place-kept c a free v w.world.store x.world.store after _ took.keeps.same
        (λ z ge l. register-other (with_register rs to i) to z j (λ e. omega arith) ∙ register-other rs to z i (λ e. omega arith) ∙ register-other after₂ top z (Number (pos 1)) (λ e. omega arith) ∙ took.kept z l (λ e. omega arith)) stood.1.is))
        took.agrees (register-other after₂ top to (Number (pos 1)) (λ e. omega arith) ∙ took.has) (register-same after₂ top (Number (pos 1))) (right-same op at_kind (pos 1) (one-of_kind at_kind t.1.1.0))
        (λ z l ne. register-other after₂ top z (Number (pos 1)) (λ e. omega arith) ∙ took.kept z (omega arith) ne ∙ stood.1.kept z l)
        (λ z l ne. ne)
        (λ i j. register-same (with_register rs to i) to j))))
    lowered (q.Increment a (NumberBy kind op at_kind) true) to free entry next lt t codes n registers store s ready =
        let more = above-more a free in
        let top = above a free in
        let place = where_of p c.first blocks a free in
        does-bind u g p home
        (joined u g p home (right-placed p f c bound works.right works.tame a s t.0 ready)
        (placed a free entry (before (Read to place kind codes.0) (before (Put top (pos 1)) (before (Compute top op at_kind to top) (before (Convert top kind top) (before (Write place kind top codes.1) next))))) t.0 codes.2 n registers store s ready))
        (λ v w n₁ after left stood.
        does-bind u g p home
        (does-used u g p home (right-reading u g p home v kind w stood.0.sane)
        (read-line u g p home v place kind codes.0 to top n₁ (before (Put top (pos 1)) (before (Compute top op at_kind to top) (before (Convert top kind top) (before (Write place kind top codes.1) next)))) after after left w (designates c p blocks a free v w.world.store left after stood.1.agrees stood.1.is) stood.1.agrees (λ _ _ _. refl)))
        (λ first x n₂ after₂ left₂ took.
        let num = number-value x.world.activations x.world.store kind first t.1.0 took.value in
        let rs = with_register after₂ top (Number (pos 1)) in
        does-line u g p home (Put top (pos 1)) (before (Compute top op at_kind to top) (before (Convert top kind top) (before (Write place kind top codes.1) next))) n₂ after₂ left₂ x top (Fine (Number (pos 1))) (Number (pos 1)) refl refl
        (change-lines u g p home c.operates works.operates v place kind op at_kind true codes.1 top to top free n₂ next registers rs left₂ first num.0 (pos 1) x t.1.0 num.1
        (λ i j. designates c p blocks a free v x.world.store left₂ _ took.agrees (place-kept c a free v w.world.store x.world.store after _ took.keeps.same
        (λ z ge l. register-other (with_register rs top i) top z j (λ e. omega arith) ∙ register-other rs top z i (λ e. omega arith) ∙ register-other after₂ top z (Number (pos 1)) (λ e. omega arith) ∙ took.kept z l (λ e. omega arith)) stood.1.is))
        took.agrees (register-other after₂ top to (Number (pos 1)) (λ e. omega arith) ∙ took.has) (register-same after₂ top (Number (pos 1))) (right-same op at_kind (pos 1) (one-of_kind at_kind t.1.1.0))
        (λ z l ne. register-other after₂ top z (Number (pos 1)) (λ e. omega arith) ∙ took.kept z (omega arith) ne ∙ stood.1.kept z l)
        (λ z l ne e. omega arith)
        (λ i j. register-other (with_register rs top i) top to j (λ e. omega arith) ∙ register-other rs top to i (λ e. omega arith) ∙ register-other after₂ top to (Number (pos 1)) (λ e. omega arith) ∙ took.has))))
    lowered (q.Increment a (PointerBy size back) false) to free entry next lt t codes n registers store s ready =
        let more = above-more a free in
        let top = above a free in
        let place = where_of p c.first blocks a free in
        does-bind u g p home
        (joined u g p home (right-placed p f c bound works.right works.tame a s t.0 ready)
        (placed a free entry (before (Read to place Ptr codes.0) (before (Put top (pos 1)) (before (Move to size back to top) (before (Write place Ptr to codes.1) next)))) t.0 codes.2 n registers store s ready))
        (λ v w n₁ after left stood.
        does-bind u g p home
        (does-used u g p home {kind = Ptr} (right-reading u g p home v Ptr w stood.0.sane)
        (read-line u g p home v place Ptr codes.0 to top n₁ (before (Put top (pos 1)) (before (Move to size back to top) (before (Write place Ptr to codes.1) next))) after after left w (designates c p blocks a free v w.world.store left after stood.1.agrees stood.1.is) stood.1.agrees (λ _ _ _. refl)))
        (λ first x n₂ after₂ left₂ took.
        let rs = with_register after₂ top (Number (pos 1)) in
        does-line u g p home (Put top (pos 1)) (before (Move to size back to top) (before (Write place Ptr to codes.1) next)) n₂ after₂ left₂ x top (Fine (Number (pos 1))) (Number (pos 1)) refl refl
        (move-lines u g p home c.operates v place size back false codes.1 to to top free n₂ next registers rs left₂ first (pos 1) x took.sane
        (λ i. designates c p blocks a free v x.world.store left₂ _ took.agrees (place-kept c a free v w.world.store x.world.store after _ took.keeps.same
        (λ z ge l. register-other rs to z i (λ e. omega arith) ∙ register-other after₂ top z (Number (pos 1)) (λ e. omega arith) ∙ took.kept z l (λ e. omega arith)) stood.1.is))
        took.agrees (register-other after₂ top to (Number (pos 1)) (λ e. omega arith) ∙ took.has) (register-same after₂ top (Number (pos 1)))
        (λ z l ne. register-other after₂ top z (Number (pos 1)) (λ e. omega arith) ∙ took.kept z (omega arith) ne ∙ stood.1.kept z l)
        (λ z l ne. ne)
        (λ i. register-same rs to i))))
    lowered (q.Increment a (PointerBy size back) true) to free entry next lt t codes n registers store s ready =
        let more = above-more a free in
        let top = above a free in
        let place = where_of p c.first blocks a free in
        does-bind u g p home
        (joined u g p home (right-placed p f c bound works.right works.tame a s t.0 ready)
        (placed a free entry (before (Read to place Ptr codes.0) (before (Put top (pos 1)) (before (Move top size back to top) (before (Write place Ptr top codes.1) next)))) t.0 codes.2 n registers store s ready))
        (λ v w n₁ after left stood.
        does-bind u g p home
        (does-used u g p home {kind = Ptr} (right-reading u g p home v Ptr w stood.0.sane)
        (read-line u g p home v place Ptr codes.0 to top n₁ (before (Put top (pos 1)) (before (Move top size back to top) (before (Write place Ptr top codes.1) next))) after after left w (designates c p blocks a free v w.world.store left after stood.1.agrees stood.1.is) stood.1.agrees (λ _ _ _. refl)))
        (λ first x n₂ after₂ left₂ took.
        let rs = with_register after₂ top (Number (pos 1)) in
        does-line u g p home (Put top (pos 1)) (before (Move top size back to top) (before (Write place Ptr top codes.1) next)) n₂ after₂ left₂ x top (Fine (Number (pos 1))) (Number (pos 1)) refl refl
        (move-lines u g p home c.operates v place size back true codes.1 top to top free n₂ next registers rs left₂ first (pos 1) x took.sane
        (λ i. designates c p blocks a free v x.world.store left₂ _ took.agrees (place-kept c a free v w.world.store x.world.store after _ took.keeps.same
        (λ z ge l. register-other rs top z i (λ e. omega arith) ∙ register-other after₂ top z (Number (pos 1)) (λ e. omega arith) ∙ took.kept z l (λ e. omega arith)) stood.1.is))
        took.agrees (register-other after₂ top to (Number (pos 1)) (λ e. omega arith) ∙ took.has) (register-same after₂ top (Number (pos 1)))
        (λ z l ne. register-other after₂ top z (Number (pos 1)) (λ e. omega arith) ∙ took.kept z (omega arith) ne ∙ stood.1.kept z l)
        (λ z l ne e. omega arith)
        (λ i. register-other rs top to i (λ e. omega arith) ∙ register-other after₂ top to (Number (pos 1)) (λ e. omega arith) ∙ took.has))))
    lowered (q.Call i es) to free entry next lt t codes n registers store s ready =
        does-bind u g p home
        (joined u g p home (right-arguments p f c bound works.right works.tame es (parameters (slice_get p.funcs i)) s t.1 ready)
        (arguments es (parameters (slice_get p.funcs i)) free entry (before (Call to i free (count_of es)) next) t.1 codes n registers store s ready))
        (λ vs v n₁ after left k.
        let one = ready-known p f c bound ready k.0 k.1.agrees in
        does-weaker u g p home (λ ws w after₂ left₂ came. record { agrees = came.agrees; kept = λ j l ne. came.kept j l ne ∙ k.1.kept j l; has = holds-result (slice_get p.funcs i) ws w.world.store (after₂ to) came.has })
        (works.calls.by i (count_of es) vs v home fn n₁ next after left to free lt is virtual k.1.count k.1.has k.0.fits one.sane one.agrees one.depth one.fuel))
    lowered (q.Serve service q.no_argument) to free entry next lt t codes n registers store s ready =
        subst (λ x. Does u g p home next (at home n x registers store s) (Came registers to free) (value_of c (q.Serve service q.no_argument) s)) (sym codes)
        (get-line u g p home fn is virtual to free n next registers store registers (λ _ _ _. refl) service c.capacity s.world s.fuel works.capacity ready.agrees)
    lowered (q.Serve service (q.an_argument e)) to free entry next lt t codes n registers store s ready =
        let k = given-kind (row service).parameter _ (law_of service).parameter t.1 in
        does-number u g p home {kind = k.0} k.2
        (used-as e s k.1 t.0 ready
        (lowered e free (free + 1) entry (before (Serve to service (Some free)) next) (omega arith) t.0 codes n registers store s ready))
        (λ z v b after left h took.
        put-line u g p home fn is virtual to free b next after left registers (λ x l ne. took.kept x (omega arith) (λ e. omega arith)) service free z c.capacity v.world v.fuel works.capacity took.has took.agrees)
    lowered (q.NullPointer kind) to free entry next lt t codes n registers store s ready =
        subst (λ x. Does u g p home next (at home n x registers store s) (Came registers to free) (value_of c (q.NullPointer kind) s)) (sym codes)
        (does-line u g p home (PutNull to) next n registers store s to (Fine Null) Null refl refl
        (arrived u g p home next n registers registers to free Null store s ready.agrees (λ _ _ _. refl)))
    lowered (q.Address a) to free entry next lt t codes n registers store s ready =
        let place = where_of p c.first blocks a free in
        does-bind u g p home (placed a free entry (before (Address to place) next) t codes n registers store s ready)
        (λ v w n₁ after left stood.
        does-line u g p home (Address to place) next n₁ after left w to (m.place_of place home.active after left) v refl
        (designates c p blocks a free v w.world.store left after stood.agrees stood.is)
        (arrived u g p home next n₁ registers after to free v left w stood.agrees (λ x l ne. stood.kept x l)))
    lowered (q.Move size back a b) to free entry next lt t codes n registers store s ready =
        let r = integer-shape (shape_of p b) t.4 in
        does-bind u g p home
        (used-as {kind = Ptr} a s t.3 t.1 ready
        (lowered a free (free + 1) entry codes.0 (omega arith) t.1 codes.1 n registers store s ready))
        (λ x v n₁ after left took.
        does-number u g p home r.2
        (used-as b v r.1 t.2 (ready-took p f c bound ready took)
        (lowered b (free + 1) (free + 2) codes.0 (before (Move to size back free (free + 1)) next) (omega arith) t.2 codes.2 n₁ after left v (ready-took p f c bound ready took)))
        (λ y w n₂ after₂ left₂ hy took₂.
        does-checked u g p home (moved_by w.world.store (bytes_moved size back y) x) w _ (λ z e.
        does-line u g p home (Move to size back free (free + 1)) next n₂ after₂ left₂ w to (m.moved left₂ size back (after₂ free) (after₂ (free + 1))) z refl
        (moved-same left₂ size back (after₂ free) (after₂ (free + 1)) x z y (took₂.kept free (omega arith) (λ e. omega arith) ∙ took.has) took₂.has
        (agree-moved w.world.store left₂ took₂.agrees (bytes_moved size back y) x z e))
        (arrived u g p home next n₂ registers after₂ to free z left₂ w took₂.agrees
        (λ i l ne. took₂.kept i (omega arith) (λ e. omega arith) ∙ took.kept i (omega arith) (λ e. omega arith))))))
    lowered (q.MoveBy size a b) to free entry next lt t codes n registers store s ready =
        let r = integer-shape (shape_of p a) t.3 in
        does-number u g p home r.2
        (used-as a s r.1 t.1 ready
        (lowered a free (free + 1) entry codes.0 (omega arith) t.1 codes.1 n registers store s ready))
        (λ y v n₁ after left hy took.
        does-bind u g p home
        (used-as {kind = Ptr} b v t.4 t.2 (ready-took p f c bound ready took)
        (lowered b (free + 1) (free + 2) codes.0 (before (Move to size false (free + 1) free) next) (omega arith) t.2 codes.2 n₁ after left v (ready-took p f c bound ready took)))
        (λ x w n₂ after₂ left₂ took₂.
        does-checked u g p home (moved_by w.world.store (bytes_moved size false y) x) w _ (λ z e.
        does-line u g p home (Move to size false (free + 1) free) next n₂ after₂ left₂ w to (m.moved left₂ size false (after₂ (free + 1)) (after₂ free)) z refl
        (moved-same left₂ size false (after₂ (free + 1)) (after₂ free) x z y took₂.has (took₂.kept free (omega arith) (λ e. omega arith) ∙ took.has)
        (agree-moved w.world.store left₂ took₂.agrees (bytes_moved size false y) x z e))
        (arrived u g p home next n₂ registers after₂ to free z left₂ w took₂.agrees
        (λ i l ne. took₂.kept i (omega arith) (λ e. omega arith) ∙ took.kept i (omega arith) (λ e. omega arith))))))
    lowered (q.Distance size a b) to free entry next lt t codes n registers store s ready =
        does-bind u g p home
        (used-as {kind = Ptr} a s t.3 t.1 ready
        (lowered a free (free + 1) entry codes.0 (omega arith) t.1 codes.1 n registers store s ready))
        (λ x v n₁ after left took.
        does-bind u g p home
        (used-as {kind = Ptr} b v t.4 t.2 (ready-took p f c bound ready took)
        (lowered b (free + 1) (free + 2) codes.0 (before (Distance to size free (free + 1)) next) (omega arith) t.2 codes.2 n₁ after left v (ready-took p f c bound ready took)))
        (λ y w n₂ after₂ left₂ took₂.
        does-checked u g p home (distance size x y) w _ (λ z e.
        does-line u g p home (Distance to size free (free + 1)) next n₂ after₂ left₂ w to (m.as_number (m.distance_of left₂ size (after₂ free) (after₂ (free + 1)))) (Number z) refl
        (distance-same left₂ size (after₂ free) (after₂ (free + 1)) x y z (took₂.kept free (omega arith) (λ e. omega arith) ∙ took.has) took₂.has
        (agree-pointer w.world.store left₂ took₂.agrees w.world.activations x (value-kept took₂.keeps Ptr x took.value) (taken-kept v.world.store w.world.store x took₂.keeps.same took.taken))
        (agree-pointer w.world.store left₂ took₂.agrees w.world.activations y took₂.value took₂.taken) e)
        (arrived u g p home next n₂ registers after₂ to free (Number z) left₂ w took₂.agrees
        (λ i l ne. took₂.kept i (omega arith) (λ e. omega arith) ∙ took.kept i (omega arith) (λ e. omega arith))))))
    lowered (q.Part from (q.Scalar kind) e) to free entry next lt t codes n registers store s ready =
        let whole = part-shape from (q.Scalar kind) (shape_of p e) t.2 in
        let offset = offset_in (slice_get (cells_of_shape (shape_of p e)) from) in
        does-bind u g p home
        (as-shape whole.2 (lowered e free (free + 1) entry (before (Read to (Through free offset) kind codes.0) next) (omega arith) t.1 codes.1 n registers store s ready))
        (λ vs v n₁ after left came.
        let o = came.has.0 in
        let part = part-cell v.world.store o came.has.1 from kind whole.1 vs came.has.3 (subst (IsPart from (q.Scalar kind)) whole.2 t.2).0 in
        let same : offset ≡ part.0.offset = ap (λ x. offset_in (slice_get (cells_of_shape x) from)) whole.2 ∙ ap offset_in part.2 in
        subst (λ ws. Does u g p home next (at home n₁ (before (Read to (Through free offset) kind codes.0) next) after left v) (Came registers to free) (Gives ws v)) (sym part.4)
        (part-line u g p home o came.has.1 part.0 part.1 kind offset codes.0 to free n₁ next registers after left v same part.3 came.has.2 part.5 came.agrees (λ q l ne. came.kept q (omega arith) (λ e. omega arith))))
    lowered (q.Part from (q.Struct count cells) e) to free entry next lt t codes n registers store s ready =
        let whole = part-shape from (q.Struct count cells) (shape_of p e) t.2 in
        let base = offset_in (slice_get (cells_of_shape (shape_of p e)) from) in
        does-bind u g p home
        (as-shape whole.2 (lowered e free (free + 1) entry (before (Address to (Through free base)) next) (omega arith) t.1 codes n registers store s ready))
        (λ vs v n₁ after left came.
        let o = came.has.0 in
        let i = came.has.1 in
        let some = t.0.1 in
        let many = t.0.0 in
        let same : base ≡ offset_in (slice_get whole.1 from) = ap (λ x. offset_in (slice_get (cells_of_shape x) from)) whole.2 in
        let in_place : InPlace base cells (drop from whole.1) = subst (λ i. InPlace i cells (drop from whole.1)) (sym same) (subst (IsPart from (q.Struct count cells)) whole.2 t.2).1 in
        let part : read_cells v.world.store o (i + base) cells ≡ Fine (take (length cells) (drop from vs)) = part-cells v.world.store o i from base cells whole.1 vs in_place came.has.3 in
        does-line u g p home (Address to (Through free base)) next n₁ after left v to (m.place_of (Through free base) home.active after left) (Pointer o (i + base)) refl
        (ap (m.further left base) came.has.2 ∙ struct-place v.world.store left came.agrees o i base cells (take (length cells) (drop from vs)) (omega arith) part)
        (stands u g p home (λ _. next) n₁ (with_register after to (Pointer o (i + base))) left v (take (length cells) (drop from vs)) (record {
          agrees = came.agrees;
          kept = λ q l ne. register-other after to q (Pointer o (i + base)) ne ∙ came.kept q (omega arith) (λ e. omega arith);
          has = (o, i + base, register-same after to (Pointer o (i + base)), part);
        })))

    -- what a struct's assignment stores
    sourced : (e : q.Expr) → Lowers e → (count : ℕ) (cells : List Cell) (v : Value) (top : ℕ) (entry next : Point) → IsTyped p f e → shape_of p e ≡ Some (q.Struct count cells) → Codes p c.first blocks e top (top + 1) entry next
        → (n : Mark) (registers : ℕ → Value) (store : Store) (s : typed.State) → Ready p f c bound s store
        → Does u g p home next (at home n entry registers store s) (Sourced count cells v (is_read e) registers top (top + 1)) (stored (q.Struct count cells) v (is_read e) (value_of c e) (source_of c e) s)
    sourced (q.Read (q.Scalar kind) b) value count cells v top entry next t same codes n registers store s ready = absurd (cc)
    sourced (q.Read (q.Struct many ds) b) value count cells v top entry next t same codes n registers store s ready =
        let place = where_of p c.first blocks b (top + 1) in
        does-bind u g p home (placed b (top + 1) entry (before (Address top place) next) t.1 codes n registers store s ready)
        (λ from w n₁ after left stood.
        does-checked u g p home (source_for cells v from) w _ (λ there fine.
        let apart = source-clear cells v from there fine in
        subst (λ x. Does u g p home next (at home n₁ (before (Address top place) next) after left w) (Sourced count cells v true registers top (top + 1)) (read_at (q.Struct count cells) x w)) (sym apart.0)
        (does-weaker u g p home (λ vs x last other k. record { came = k.0; clear = λ yes o i target. apart.1 o i k.0.has.0 k.0.has.1 target (sym k.1 ∙ k.0.has.2) })
        (struct-line u g p home from place count cells top (top + 1) n₁ next registers after left w (designates c p blocks b (top + 1) from w.world.store left after stood.agrees stood.is) stood.agrees (λ x l ne. stood.kept x l)))))
    sourced e value count cells v top entry next t same codes n registers store s ready =
        does-weaker u g p home (λ vs x last other came. record { came = came; clear = λ yes. absurd (cc) })
        (as-shape same (value top (top + 1) entry next (omega arith) codes n registers store s ready))

    pub arguments : (es : q.Exprs) (os : List q.LocalObject) (free : ℕ) (entry next : Point) → AreArguments p f os es → CodesArguments p c.first blocks es free entry next
        → (n : Mark) (registers : ℕ → Value) (store : Store) (s : typed.State) → Ready p f c bound s store → Does u g p home next (at home n entry registers store s) (Passed registers free (count_of es)) (values_of c es s)
    arguments q.no_exprs os free entry next t codes n registers store s ready =
        subst (λ x. Does u g p home next (at home n x registers store s) (Passed registers free 0) (values_of c q.no_exprs s)) (sym codes)
        (stands u g p home (λ _. next) n registers store s [] (record { agrees = ready.agrees; kept = λ x l. refl; count = refl; has = tt }))
    arguments (q.more_exprs e rest) [] free entry next t codes n registers store s ready = absurd t
    arguments (q.more_exprs e rest) (o ∷ os) free entry next t codes n registers store s ready =
        let k = takes-kind (shape_of p e) o.cells t.1 in
        does-bind u g p home
        (used-as e s k.1 t.0 ready
        (lowered e free (free + 1) entry codes.0 (omega arith) t.0 codes.1 n registers store s ready))
        (λ v w n₁ after left took.
        does-bind u g p home
        (arguments rest os (free + 1) codes.0 next t.2 codes.2 n₁ after left w (ready-took p f c bound ready took))
        (λ vs x n₂ after₂ left₂ passed.
        let next_one : free + 1 ≡ suc free = omega arith in
        stands u g p home (λ _. next) n₂ after₂ left₂ x (v ∷ vs) (record {
          agrees = passed.agrees;
          kept = λ i l. passed.kept i (omega arith) ∙ took.kept i (omega arith) (λ e. omega arith);
          count = ap suc passed.count;
          has = (passed.kept free (omega arith) ∙ took.has, subst (λ i. HasArguments after₂ i vs) next_one passed.has);
        })))

    tested-by : (e : q.Expr) → Lowers e → (free x y : ℕ) (entry one other : Point) → IsTyped p f e → IsScalarShape (shape_of p e) → CodesTestBy p c.first blocks e (Codes p c.first blocks e) free x y entry → Begins blocks x one → Begins blocks y other → Tests e free entry one other
    tested-by (q.Not a) value free x y entry one other t scalar codes begins_one begins_other =
        by-truth (q.Not a) free entry one other (λ n registers store s ready.
        does-bind u g p home
        (tested-by a (λ to free entry next lt codes. lowered a to free entry next lt t.0 codes) free y x entry other one t.0 t.1 codes begins_other begins_one n registers store s ready)
        (λ v w n₁ after left behind. shows-not one other s registers free (holds v) n₁ after left w behind))
    tested-by (q.And a b) value free x y entry one other t scalar codes begins_one begins_other =
        by-truth (q.And a b) free entry one other (λ n registers store s ready.
        and-goes a b free entry codes.1 one other truth n registers store s
        (tested-by a (λ to free entry next lt codes. lowered a to free entry next lt t.0 codes) free codes.0 y entry codes.1 other t.0 t.2 codes.3 codes.2 begins_other)
        (tested-by b (λ to free entry next lt codes. lowered b to free entry next lt t.1 codes) free x y codes.1 one other t.1 t.3 codes.4 begins_one begins_other)
        ready (λ answer i rs left w behind. shows one other s registers free answer i rs left w behind))
    tested-by (q.Or a b) value free x y entry one other t scalar codes begins_one begins_other =
        by-truth (q.Or a b) free entry one other (λ n registers store s ready.
        or-goes a b free entry codes.1 one other truth n registers store s
        (tested-by a (λ to free entry next lt codes. lowered a to free entry next lt t.0 codes) free x codes.0 entry one codes.1 t.0 t.2 codes.3 begins_one codes.2)
        (tested-by b (λ to free entry next lt codes. lowered b to free entry next lt t.1 codes) free x y codes.1 one other t.1 t.3 codes.4 begins_one begins_other)
        ready (λ answer i rs left w behind. shows one other s registers free answer i rs left w behind))
    tested-by e value free x y entry one other t scalar codes begins_one begins_other =
        by-value e free x y entry one other (value free (free + 1) entry (ends (Branch free x y)) (omega arith) codes) t scalar begins_one begins_other

  pub tested : (e : q.Expr) (free x y : ℕ) (entry one other : Point) → IsTyped p f e → IsScalarShape (shape_of p e) → CodesTest p c.first blocks e free x y entry → Begins blocks x one → Begins blocks y other → Tests e free entry one other
  tested e free x y entry one other t scalar codes begins_one begins_other =
      tested-by e (λ to free entry next lt codes. lowered e to free entry next lt t codes) free x y entry one other t scalar codes begins_one begins_other
