-- What tasks mean: what is still to do in an activation, in the terms of the meaning of programs.
use Rattle.std.specs.Prelude.{◌≡◌, ℕ, List, [], ◌∷◌, ◌++◌, map, drop, take, length, ℤ, pos, Option, Some, None, true, false}
use denote.Bor.{Bor}
use Rattle.std.specs.Prelude.{Box}
use Rattle.std.specs.declared.alloc.Global.{Global}
use Rattle.im_ctype.specs.Table.{Table}
use Rattle.im_store.specs.Objects as o
use Rattle.im_store.specs.Objects.{Store}
use Rattle.im_store.specs.Pointers.{moved_by, bytes_moved, distance, compare_values, holds}
use Rattle.im_eval_store.specs.declared.value.Value.{Value}
use Rattle.im_eval_store.specs.Shown.{shown}
use Rattle.im_serve.specs.declared.service.Service.{Service}
use Rattle.im_typed.specs.declared.expression.Access.{Access}
use Rattle.im_typed.specs.declared.expression.Expr.{Expr}
use Rattle.im_typed.specs.declared.expression.Place.{Place}
use Rattle.im_typed.specs.declared.statement.Stmt.{Stmt}
use Rattle.im_typed.specs.declared.statement.Piece.{Piece}
use Rattle.im_typed.specs.Program as p
use Rattle.im_typed.specs.ProgramOf.{access_of, place_of as typed_place, expr_of as typed_expr, stmt_of as typed_stmt, piece_of as typed_piece}
use Rattle.im_typed.specs.Runs.{Run, ◌>>=◌, give, with_fuel, either, checked, in_store}
use Rattle.im_typed.specs.Values.{Values, scalar, number, truth, used, value_in, number_in, number_of, cells_of, read_at, write_at, update}
use Rattle.im_typed.specs.Meaning.{Around, Flow, Next, Returned, after, after_turn, change_store, cleared, does, does_from, entered, given_offsets, initialise, is_read, local, out_of_switch, place_of, served, source_of, stored, turns, value_of, values_of}
use Rattle.im_eval_machine.specs.Small.{small_place, small_expr, small_stmt, small_piece}
use Rattle.im_eval_machine.specs.declared.operator.Last.{Last}
use Rattle.im_eval_machine.specs.Operators.{gives}
use Rattle.im_eval_machine.specs.Steps.{read_for}
use Rattle.im_eval_tasks.specs.declared.tasks.Left.{Left}
use Rattle.im_eval_tasks.specs.declared.tasks.Left.TheVariants as left
use Rattle.im_eval_tasks.specs.declared.tasks.Whole.{Whole}
use Rattle.im_eval_tasks.specs.declared.tasks.Whole.TheVariants.{Comma, Discard, Part, Store as StoreAt}
use Rattle.im_eval_tasks.specs.declared.tasks.At.{At}
use Rattle.im_eval_tasks.specs.declared.tasks.At.TheVariants.{Read, Address, Assign, Source, Update, Increment}
use Rattle.im_eval_tasks.specs.declared.tasks.Call.{Call}
use Rattle.im_eval_tasks.specs.declared.tasks.Loop.{Loop}
use Rattle.im_eval_tasks.specs.declared.tasks.Switch.{Switch}
use Rattle.im_eval_tasks.specs.declared.tasks.Use.{Use}
use Rattle.im_eval_tasks.specs.declared.tasks.Use.TheVariants.{Drop, Return, Piece as PieceOf, Branch, Turn, Again, Enter}
use Rattle.im_eval_tasks.specs.declared.tasks.Rest.{Rest}
use Rattle.im_eval_tasks.specs.declared.tasks.Statements.{Statements as Left_of_block}
use Rattle.im_eval_tasks.specs.declared.tasks.Rest.TheVariants.{Statements, Body, First, Switch as SwitchDone}

abbrev pub lasts : Last → o.Value → Run Values
lasts l v = in_store (gives l v) >>= scalar

module _ (types : Table) where
  abbrev pub place_in : Bor Place → p.Place
  place_in a = small_place (typed_place types a.now)

  abbrev pub expr_in : Bor Expr → p.Expr
  expr_in e = small_expr (typed_expr types e.now)

  abbrev pub stmt_in : Bor Stmt → p.Stmt
  stmt_in s = small_stmt (typed_stmt types s.now)

  abbrev pub boxed_in : Bor (Box Stmt Global) → p.Stmt
  boxed_in s = small_stmt (typed_stmt types s.now.value)

  abbrev pub operand_in : Bor (Box Expr Global) → p.Expr
  operand_in e = small_expr (typed_expr types e.now.value)

  abbrev pub exprs_in : List Expr → p.Exprs
  exprs_in [] = p.no_exprs
  exprs_in (e ∷ es) = p.more_exprs (small_expr (typed_expr types e)) (exprs_in es)

  abbrev pub stmts_in : List Stmt → p.Stmts
  stmts_in [] = p.no_stmts
  stmts_in (s ∷ ss) = p.more_stmts (small_stmt (typed_stmt types s)) (stmts_in ss)

  abbrev pub piece_in : Piece → p.Piece
  piece_in x = small_piece (typed_piece types x)

  -- the place that an expression reads, where it is the value of one
  abbrev pub Reads : p.Expr → Option (Bor Place) → Type 0
  Reads e None = is_read e ≡ false
  Reads e (Some a) = (is_read e ≡ true) × ((c : Around) → source_of c e ≡ place_of c (place_in a))

  -- a value is stored at a place
  abbrev pub stores : Access → o.Value → Values → Run Values
  stores x at vs = used vs >>= (λ _. write_at (access_of types x) at vs)

  module _ (c : Around) where
    -- an operator with its right operand, from the value of its left one on
    abbrev pub lefts : Left → Bor (Box Expr Global) → o.Value → Run Values
    lefts (left.Binary op k) b v =
        checked (number_of v) >>= (λ x. number_in (value_of c (operand_in b)) >>= (λ y. c.operates op k x y >>= number))
    lefts (left.Move size back) b v =
        number_in (value_of c (operand_in b)) >>= (λ n. in_store (λ store. moved_by store (bytes_moved size back n) v) >>= scalar)
    lefts (left.MoveBy size) b v =
        checked (number_of v) >>= (λ n. value_in (value_of c (operand_in b)) >>= (λ q. in_store (λ store. moved_by store (bytes_moved size false n) q) >>= scalar))
    lefts (left.Distance size) b v =
        value_in (value_of c (operand_in b)) >>= (λ q. checked (distance size v q) >>= number)
    lefts (left.Compare op) b v =
        value_in (value_of c (operand_in b)) >>= (λ y. checked (compare_values op v y) >>= truth)
    lefts left.And b v =
        either (holds v) (value_in (value_of c (operand_in b)) >>= (λ y. truth (holds y))) (truth false)
    lefts left.Or b v =
        either (holds v) (truth true) (value_in (value_of c (operand_in b)) >>= (λ y. truth (holds y)))

    abbrev pub chooses : Bor (Box Expr Global) → Bor (Box Expr Global) → o.Value → Run Values
    chooses a b v = either (holds v) (value_of c (operand_in a)) (value_of c (operand_in b))

    abbrev pub serves : Service → o.Value → Run Values
    serves service v = checked (number_of v) >>= (λ z. with_fuel (served c.capacity service z))

    -- what is done with a value, whatever it is
    abbrev pub wholes : Whole → Values → Run Values
    wholes (Comma b) vs = value_of c (operand_in b)
    wholes Discard vs = give []
    wholes (Part from x) vs = give (take (length (cells_of (access_of types x))) (drop from vs))
    wholes (StoreAt x at) vs = stores x (shown at) vs

    -- an expression is evaluated, and its value stored at a place
    abbrev pub evaluates_for : Access → o.Value → p.Expr → Run Values
    evaluates_for x at e = value_of c e >>= stores x at

    -- what is done at a place
    abbrev pub ats : At → o.Value → Run Values
    ats (Read x) at = read_at (access_of types x) at
    ats Address at = scalar at
    ats (Assign x e) at =
        let value = operand_in e in
        stored (access_of types x) at (is_read value) (value_of c value) (source_of c value) >>= stores x at
    ats (Source x target) at = read_for (access_of types x) (shown target) at >>= stores x (shown target)
    ats (Update change e) at = update c.operates change false (number_in (value_of c (operand_in e))) at
    ats (Increment change old) at = update c.operates change old (give (pos 1)) at

    -- a call, once some of its arguments are there: the others are evaluated
    abbrev pub calls_on : Call → Run Values
    calls_on call = values_of c (exprs_in call.rest.now) >>= (λ vs. c.calls call.function (map {A = Value} shown call.ready.items ++ vs))

    -- and from the value of the next argument on
    abbrev pub takes_argument : Call → o.Value → Run Values
    takes_argument call v =
        values_of c (exprs_in call.rest.now) >>= (λ vs. c.calls call.function (map {A = Value} shown call.ready.items ++ v ∷ vs))

    -- an initialiser of a local, from the pieces on that are left
    abbrev pub initialises : ℕ → List Piece → List Piece → Run Flow
    initialises x all rest =
        initialise c (local c x) (map piece_in rest) >>= (λ _.
        change_store (cleared (given_offsets (map piece_in all)) (local c x)) >>= (λ _. give Next))

    -- and from the value of the first of these
    abbrev pub takes_piece : ℕ → List Piece → List Piece → Values → Run Flow
    takes_piece x all [] vs = initialises x all []
    takes_piece x all (piece ∷ rest) vs =
        used vs >>= (λ _. write_at (access_of types piece.access) (o.Pointer (local c x) piece.offset) vs >>= (λ _. initialises x all rest))

    -- n bounds the turns of a loop; where it is at least the fuel, it need not be counted down
    module _ (n : ℕ) where
      abbrev pub does_all : List Stmt → Run Flow
      does_all ss = does_from c n 0 (stmts_in ss)

      abbrev pub does_left : Left_of_block → Run Flow
      does_left l = does_all (drop l.next l.block.now.items)

      abbrev pub steps : Option (Bor Expr) → Run Values
      steps None = give []
      steps (Some e) = value_of c (expr_in e)

      -- the turns of a loop, from its test on
      abbrev pub loops : Loop → Run Flow
      loops l = turns n (value_of c (expr_in l.test)) (does c n (boxed_in l.body)) (steps l.step)

      -- a loop, from where its body ended
      abbrev pub ends_turn : Loop → Flow → Run Flow
      ends_turn l f = after_turn f (steps l.step >>= (λ _. loops l))

      -- a turn behind its test: a unit of fuel, then the body
      abbrev pub enters_body : Loop → Run Flow
      enters_body l = with_fuel (does c n (boxed_in l.body) >>= ends_turn l)

      abbrev pub switches : Switch → ℤ → Run Flow
      switches w z = does_all (drop (entered z w.cases.now.items w.otherwise) w.block.now.items) >>= (λ f. give (out_of_switch f))

      -- a statement, from the value of its expression on
      abbrev pub uses : Use → Values → Run Flow
      uses Drop vs = give Next
      uses Return vs = used vs >>= (λ v. give (Returned (v ∷ [])))
      uses (PieceOf i) vs = takes_piece i.local i.pieces.now.items (drop i.next i.pieces.now.items) vs
      uses (Branch a b) vs = used vs >>= (λ v. either (holds v) (does c n (boxed_in a)) (does c n (boxed_in b)))
      uses (Turn l) vs = used vs >>= (λ v. either (holds v) (enters_body l) (give Next))
      uses (Again l) vs = loops l
      uses (Enter w) vs = used vs >>= (λ v. checked (number_of v) >>= switches w)

      -- a statement, from where one in it ended
      abbrev pub goes_after : Rest → Flow → Run Flow
      goes_after (Statements ss) f = after f (does_left ss)
      goes_after (Body l) f = ends_turn l f
      goes_after (First l) f = after f (loops l)
      goes_after SwitchDone f = give (out_of_switch f)
