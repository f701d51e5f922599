-- How an expression begins: its first operand, and then what is done with its value.
use Rattle.std.proofs.Common.{◌≡◌, refl, sym, ℕ}
use Rattle.std.specs.Prelude.{Box, [], ◌∷◌, Some, if◌then◌else◌, Bool, false, not, take, drop, length, pos}
use denote.Bor.{Bor}
use Rattle.std.specs.declared.alloc.Global.{Global}
use Rattle.im_num.specs.declared.kind.Kind.{Kind}
use Rattle.im_num.specs.Kinds.{wrap}
use Rattle.im_ctype.specs.Table.{Table}
use Rattle.im_store.specs.declared.operators.UnaryOp.{UnaryOp}
use Rattle.im_store.specs.declared.operators.BinaryOp.{BinaryOp}
use Rattle.im_store.specs.declared.operators.Comparison.{Comparison}
use Rattle.im_store.specs.Numbers.{apply, apply_one}
use Rattle.im_store.specs.Objects as o
use Rattle.im_store.specs.declared.number.Number.{Number}
use Rattle.im_eval_store.specs.declared.value.Value.{Value}
use Rattle.im_eval_store.specs.Shown.{shown}
use Rattle.im_store.specs.Pointers.{moved_by, bytes_moved, distance, compare_values, holds}
use Rattle.im_serve.specs.declared.service.Service.{Service}
use Rattle.im_typed.specs.declared.expression.Access.{Access}
use Rattle.im_typed.specs.declared.expression.Change.{Change}
use Rattle.im_typed.specs.declared.expression.Expr.{Expr}
use Rattle.im_typed.specs.declared.statement.Stmt.{Stmt}
use Rattle.im_typed.specs.Program as p
use Rattle.im_typed.specs.ProgramOf.{access_of}
use Rattle.im_typed.specs.Runs.{State, Run, goes_on, ◌>>=◌, give, with_fuel, either, checked, in_store}
use Rattle.im_typed.specs.Values.{Values, scalar, number, truth, used, value_in, number_in, number_of, cells_of, read_at, update}
use Rattle.im_typed.specs.Meaning.{Around, Flow, Next, Returned, after, does, is_read, served, source_of, stored, value_of, place_of}
use Rattle.im_typed.specs.Programs.{Setting}
use Rattle.im_eval_machine.specs.declared.here.Here.{Here}
use Rattle.im_eval_machine.specs.declared.operator.Last.TheVariants as last
use Rattle.im_eval_tasks.specs.declared.tasks.Task.TheVariants as task
use Rattle.im_eval_tasks.specs.declared.tasks.At.{At}
use Rattle.im_eval_tasks.specs.declared.tasks.At.TheVariants as at
use Rattle.im_eval_tasks.specs.declared.tasks.Left.{Left}
use Rattle.im_eval_tasks.specs.declared.tasks.Left.TheVariants as left
use Rattle.im_eval_tasks.specs.declared.tasks.Whole.{Whole}
use Rattle.im_eval_tasks.specs.declared.tasks.Whole.TheVariants as whole
use Rattle.im_eval_tasks.specs.declared.tasks.Loop.{Loop}
use Rattle.im_eval_tasks.specs.declared.tasks.Use.{Use}
use Rattle.im_eval_tasks.specs.declared.tasks.Use.TheVariants as use_of
use Rattle.im_eval_tasks.specs.declared.tasks.Rest.TheVariants as rest
use Rattle.im_eval_tasks.specs.declared.tasks.Operand.{Operand}
use Rattle.im_eval_tasks.specs.declared.tasks.Operand.TheVariants as operand
use Rattle.im_eval_tasks.specs.Tasks.{operand_in, expr_in, boxed_in, loops, lefts, chooses, stores}
use Rattle.im_eval_tasks.specs.Stack.{Completion, Valued, Flowed, in_activation, operand_goes, place_goes, value_goes, flow_goes}
use Rattle.im_eval_tasks.proofs.Binds.{assoc, strict, strict-number, numbered, computes, used-goes}

module _ (types : Table) (g : Setting) (n : ℕ) (h : Here) (next : Completion → Run Values) (s : State) where
  abbrev c : Around
  c = in_activation types g n h

  abbrev on : Values → Run Values
  on vs = next (Valued vs)

  -- the tasks that wait for a place, for a value, for one that is used
  abbrev at_place : At → o.Value → Run Values
  at_place a = place_goes types g n h (task.At a) next

  abbrev goes : Operand → o.Value → Run Values
  goes x = operand_goes types g n h x next

  abbrev used_by : Operand → Values → Run Values
  used_by x = value_goes types g n h (task.Operand x) next

  abbrev taken_by : Whole → Values → Run Values
  taken_by w = value_goes types g n h (task.Whole w) next

  -- what is done at a place

  pub reads_ : (a : p.Place) (x : Access) → goes_on (place_of c a s) (at_place (at.Read x)) ≡ goes_on (value_of c (p.Read (access_of types x) a) s) on
  reads_ a x = sym (assoc (place_of c a s) (read_at (access_of types x)) on)

  pub address_ : (a : p.Place) → goes_on (place_of c a s) (at_place at.Address) ≡ goes_on (value_of c (p.Address a) s) on
  address_ a = sym (assoc (place_of c a s) scalar on)

  pub assign_ : (a : p.Place) (x : Access) (e : Bor (Box Expr Global)) → goes_on (place_of c a s) (at_place (at.Assign x e)) ≡ goes_on (value_of c (p.Assign (access_of types x) a (operand_in types e)) s) on
  assign_ a x e =
      let value = operand_in types e in
      sym (assoc (place_of c a s) (λ v. stored (access_of types x) v (is_read value) (value_of c value) (source_of c value) >>= stores types x v) on)

  pub increment_ : (a : p.Place) (change : Change) (old : Bool) → goes_on (place_of c a s) (at_place (at.Increment change old)) ≡ goes_on (value_of c (p.Increment a change old) s) on
  increment_ a change old = sym (assoc (place_of c a s) (update c.operates change old (give (pos 1))) on)

  -- operators of one operand

  pub convert_ : (e : p.Expr) (k : Kind) → goes_on (value_of c e s) (used_by (operand.Last (last.Convert k))) ≡ goes_on (value_of c (p.Convert k e) s) on
  convert_ e k =
      sym (strict-number (value_of c e s) (λ z. number (wrap k z)) (goes (operand.Last (last.Convert k))) on
      (λ v t. numbered (number_of v) (λ z. o.Number (wrap k z)) t on))

  pub unary_ : (e : p.Expr) (op : UnaryOp) (k : Kind) → goes_on (value_of c e s) (used_by (operand.Last (last.Unary op k))) ≡ goes_on (value_of c (p.Unary op k e) s) on
  unary_ e op k =
      sym (strict-number (value_of c e s) (λ z. number (apply_one op k z)) (goes (operand.Last (last.Unary op k))) on
      (λ v t. numbered (number_of v) (λ z. o.Number (apply_one op k z)) t on))

  pub not_ : (e : p.Expr) → goes_on (value_of c e s) (used_by (operand.Last last.Not)) ≡ goes_on (value_of c (p.Not e) s) on
  not_ e = sym (strict (value_of c e s) (λ x. truth (not (holds x))) (goes (operand.Last last.Not)) on (λ v t. refl))

  pub serve_ : (e : p.Expr) (service : Service) → goes_on (value_of c e s) (used_by (operand.Serve service)) ≡ goes_on (value_of c (p.Serve service (p.an_argument e)) s) on
  serve_ e service =
      sym (strict-number (value_of c e s) (λ z. with_fuel (served c.capacity service z)) (goes (operand.Serve service)) on (λ v t. refl))

  -- whole values

  pub comma_ : (e : p.Expr) (b : Bor (Box Expr Global)) → goes_on (value_of c e s) (taken_by (whole.Comma b)) ≡ goes_on (value_of c (p.Comma e (operand_in types b)) s) on
  comma_ e b = sym (assoc (value_of c e s) (λ _. value_of c (operand_in types b)) on)

  pub discard_ : (e : p.Expr) → goes_on (value_of c e s) (taken_by whole.Discard) ≡ goes_on (value_of c (p.Discard e) s) on
  discard_ e = sym (assoc (value_of c e s) (λ _. give []) on)

  pub part_ : (e : p.Expr) (from : ℕ) (x : Access) → goes_on (value_of c e s) (taken_by (whole.Part from x)) ≡ goes_on (value_of c (p.Part from (access_of types x) e) s) on
  part_ e from x = sym (assoc (value_of c e s) (λ vs. give (take (length (cells_of (access_of types x))) (drop from vs))) on)

  -- operators of two operands: the left one, and then the right one

  -- a left operand that is a pointer or any scalar
  left_ : (e : p.Expr) (l : Left) (b : Bor (Box Expr Global))
      → goes_on (goes_on (goes_on (value_of c e s) used) (lefts types c l b)) on ≡ goes_on (value_of c e s) (used_by (operand.Left l b))
  left_ e l b = strict (value_of c e s) (lefts types c l b) (goes (operand.Left l b)) on (λ v t. refl)

  pub binary_ : (e : p.Expr) (op : BinaryOp) (k : Kind) (b : Bor (Box Expr Global)) → goes_on (value_of c e s) (used_by (operand.Left (left.Binary op k) b)) ≡ goes_on (value_of c (p.Binary op k e (operand_in types b)) s) on
  binary_ e op k b = sym (strict-number (value_of c e s) (λ x. number_in (value_of c (operand_in types b)) >>= (λ y. checked (apply op k x y) >>= number)) (goes (operand.Left (left.Binary op k) b)) on (λ v t. refl))

  pub move_ : (e : p.Expr) (size : ℕ) (back : Bool) (b : Bor (Box Expr Global)) → goes_on (value_of c e s) (used_by (operand.Left (left.Move size back) b)) ≡ goes_on (value_of c (p.Move size back e (operand_in types b)) s) on
  move_ e size back b = sym (left_ e (left.Move size back) b)

  pub move_by_ : (e : p.Expr) (size : ℕ) (b : Bor (Box Expr Global)) → goes_on (value_of c e s) (used_by (operand.Left (left.MoveBy size) b)) ≡ goes_on (value_of c (p.MoveBy size e (operand_in types b)) s) on
  move_by_ e size b = sym (strict-number (value_of c e s) (λ m. value_in (value_of c (operand_in types b)) >>= (λ q. in_store (λ store. moved_by store (bytes_moved size false m) q) >>= scalar)) (goes (operand.Left (left.MoveBy size) b)) on (λ v t. refl))

  pub distance_ : (e : p.Expr) (size : ℕ) (b : Bor (Box Expr Global)) → goes_on (value_of c e s) (used_by (operand.Left (left.Distance size) b)) ≡ goes_on (value_of c (p.Distance size e (operand_in types b)) s) on
  distance_ e size b = sym (left_ e (left.Distance size) b)

  pub compare_ : (e : p.Expr) (op : Comparison) (k : Kind) (b : Bor (Box Expr Global)) → goes_on (value_of c e s) (used_by (operand.Left (left.Compare op) b)) ≡ goes_on (value_of c (p.Compare op k e (operand_in types b)) s) on
  compare_ e op k b = sym (left_ e (left.Compare op) b)

  pub and_ : (e : p.Expr) (b : Bor (Box Expr Global)) → goes_on (value_of c e s) (used_by (operand.Left left.And b)) ≡ goes_on (value_of c (p.And e (operand_in types b)) s) on
  and_ e b = sym (left_ e left.And b)

  pub or_ : (e : p.Expr) (b : Bor (Box Expr Global)) → goes_on (value_of c e s) (used_by (operand.Left left.Or b)) ≡ goes_on (value_of c (p.Or e (operand_in types b)) s) on
  or_ e b = sym (left_ e left.Or b)

  pub choose_ : (e : p.Expr) (a b : Bor (Box Expr Global)) → goes_on (value_of c e s) (used_by (operand.Choose a b)) ≡ goes_on (value_of c (p.Choose e (operand_in types a) (operand_in types b)) s) on
  choose_ e a b = sym (strict (value_of c e s) (chooses types c a b) (goes (operand.Choose a b)) on (λ v t. refl))

  -- the right operand, once the left one is there

  pub right_binary : (e : p.Expr) (op : BinaryOp) (k : Kind) (a : Number) → goes_on (value_of c e s) (used_by (operand.Last (last.Binary op k a)))
      ≡ goes_on ((number_in (value_of c e) >>= (λ y. checked (apply op k a.value y) >>= number)) s) on
  right_binary e op k a =
      sym (strict-number (value_of c e s) (λ y. checked (apply op k a.value y) >>= number) (goes (operand.Last (last.Binary op k a))) on
      (λ v t. computes (number_of v) (λ y. apply op k a.value y) t on))

  pub right_move_by : (e : p.Expr) (size : ℕ) (m : Number) → goes_on (value_of c e s) (used_by (operand.Last (last.MoveBy size m)))
      ≡ goes_on ((value_in (value_of c e) >>= (λ q. in_store (λ store. moved_by store (bytes_moved size false m.value) q) >>= scalar)) s) on
  right_move_by e size m =
      sym (strict (value_of c e s) (λ q. in_store (λ store. moved_by store (bytes_moved size false m.value) q) >>= scalar) (goes (operand.Last (last.MoveBy size m))) on (λ v t. refl))

  pub right_distance : (e : p.Expr) (size : ℕ) (v : Value) → goes_on (value_of c e s) (used_by (operand.Last (last.Distance size v)))
      ≡ goes_on ((value_in (value_of c e) >>= (λ q. checked (distance size (shown v) q) >>= number)) s) on
  right_distance e size v =
      sym (strict (value_of c e s) (λ q. checked (distance size (shown v) q) >>= number) (goes (operand.Last (last.Distance size v))) on
      (λ q t. numbered (distance size (shown v) q) (λ z. o.Number z) t on))

  pub right_compare : (e : p.Expr) (op : Comparison) (v : Value) → goes_on (value_of c e s) (used_by (operand.Last (last.Compare op v)))
      ≡ goes_on ((value_in (value_of c e) >>= (λ y. checked (compare_values op (shown v) y) >>= truth)) s) on
  right_compare e op v =
      sym (strict (value_of c e s) (λ y. checked (compare_values op (shown v) y) >>= truth) (goes (operand.Last (last.Compare op v))) on
      (λ y t. numbered (compare_values op (shown v) y) (λ b. o.Number (if b then pos 1 else pos 0)) t on))

  pub right_holds : (e : p.Expr) → goes_on (value_of c e s) (used_by (operand.Last last.Holds)) ≡ goes_on ((value_in (value_of c e) >>= (λ y. truth (holds y))) s) on
  right_holds e = sym (strict (value_of c e s) (λ y. truth (holds y)) (goes (operand.Last last.Holds)) on (λ v t. refl))

  -- a statement, from the value of its expression on; the step of a loop

  abbrev flowed : Flow → Run Values
  flowed f = next (Flowed f)

  abbrev with_value : Use → Values → Run Values
  with_value u = value_goes types g n h (task.Use u) next

  pub drop_ : (e : p.Expr) → goes_on (value_of c e s) (with_value use_of.Drop) ≡ goes_on (does c n (p.Do e) s) flowed
  drop_ e = sym (assoc (value_of c e s) (λ _. give Next) flowed)

  pub return_ : (e : p.Expr) → goes_on (value_of c e s) (with_value use_of.Return) ≡ goes_on (does c n (p.Return (Some e)) s) flowed
  return_ e = used-goes (value_of c e s) (λ v. give (Returned (v ∷ []))) flowed

  pub branch_ : (e : p.Expr) (a b : Bor (Box Stmt Global)) → goes_on (value_of c e s) (with_value (use_of.Branch a b)) ≡ goes_on (does c n (p.If e (boxed_in types a) (boxed_in types b)) s) flowed
  branch_ e a b = used-goes (value_of c e s) (λ v. either (holds v) (does c n (boxed_in types a)) (does c n (boxed_in types b))) flowed

  pub again_ : (e : Bor Expr) (l : Loop) → goes_on (value_of c (expr_in types e) s) (with_value (use_of.Again l))
      ≡ goes_on ((value_of c (expr_in types e) >>= (λ _. loops types c n l)) s) flowed
  again_ e l = sym (assoc (value_of c (expr_in types e) s) (λ _. loops types c n l) flowed)

  pub first_ : (a : p.Stmt) (l : Loop) → goes_on (does c n a s) (flow_goes types g n h (task.Rest (rest.First l)) next)
      ≡ goes_on ((does c n a >>= (λ f. after f (loops types c n l))) s) flowed
  first_ a l = sym (assoc (does c n a s) (λ f. after f (loops types c n l)) flowed)
