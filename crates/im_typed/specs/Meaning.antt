-- What expressions, initialisers and statements do, from left to right (C11 6.5, 6.7.9, 6.8), and calls of services.
use Rattle.std.specs.Prelude.{ℕ, zero, suc, ◌+◌, ◌==◌, Bool, true, false, not, List, [], ◌∷◌, ◌++◌, map, length, take, drop, ℤ, pos, Option, Some, None, if◌then◌else◌}
use Rattle.std.specs.Ordering.{int_eq}
use Rattle.im_num.specs.declared.kind.Kind.{Kind}
use Rattle.im_num.specs.Kinds.{wrap}
use Rattle.im_store.specs.im_ctype.declared.cell.Cell.{Cell}
use Rattle.im_store.specs.Numbers.{apply_one}
use Rattle.im_store.specs.Objects.{Named, Object, static, Value, Null, Pointer, Unset, Shape, Store, same_object, zero_of}
use Rattle.im_store.specs.Pointers.{moved_by, bytes_moved, member_at, distance, compare_values, holds}
use Rattle.im_typed.specs.declared.statement.Case.{Case}
use Rattle.im_typed.specs.Program.{Access, Scalar, Struct, Place, Static, Local, Target, Member, Expr, Constant, NullPointer, Read, Address, Convert, Unary, Binary, Move, MoveBy, Distance, Compare, Not, And, Or, Choose, Comma, Discard, Assign, Update, Increment, Part, Call, Serve, no_argument, an_argument, Exprs, no_exprs, more_exprs, Piece, Stmt, Do, Forget, Initialise, Block, If, While, DoWhile, For, Switch, Break, Continue, Return, Stmts, no_stmts, more_stmts}
use Rattle.im_serve.specs.declared.service.Service.{Service}
use Rattle.im_serve.specs.Services.{serve}
use Rattle.im_typed.specs.Runs.{World, Run, ◌>>=◌, give, starve, look, change, with_fuel, either, checked, in_store}
use Rattle.im_typed.specs.Values.{Values, Operates, scalar, number, truth, used, value_in, number_in, cells_of, source_for, read_at, write_at, update}

-- what a call does, by the number of the function and the arguments
abbrev pub Calls : Type 0
Calls = ℕ → List Value → Run Values

-- what the meaning of a body stands on: the activation's number and depth, the number of the function's first object, the
-- capacity of the output in bytes, what calls do, and what binary operators do
pub record Around : Type 0 where
  pub activation : ℕ
  pub depth : ℕ
  pub first : ℕ
  pub capacity : ℕ
  pub calls : Calls
  pub operates : Operates

-- input and output after a service
abbrev pub after_service : ℕ → Service → ℤ → World → World
after_service capacity service z w =
    let reply = serve service capacity z w.input w.output in
    record w { input = reply.input; output = reply.output }

-- what a service gives for its argument, or for 0 where it has no parameter
abbrev pub served : ℕ → Service → ℤ → Run Values
served capacity service z = do
  w ← look
  _ ← change (after_service capacity service z)
  number (serve service capacity z w.input w.output).value

-- an expression is the value of a place
abbrev pub is_read : Expr → Bool
is_read (Read x a) = true
is_read e = false

-- the value that is stored at a place, or the source of one that is read: a struct's is this place, or has no byte in common
-- with it (C11 6.5.16.1p3)
abbrev pub stored : Access → Value → Bool → Run Values → Run Value → Run Values
stored (Scalar kind) at is_read value source = value
stored (Struct count cells) at false value source = value
stored (Struct count cells) at true value source = do
  from ← source
  there ← checked (source_for cells at from)
  read_at (Struct count cells) there

module _ (c : Around) where
  abbrev pub local : ℕ → Object
  local n = record { activation = c.activation; depth = c.depth; name = Named (c.first + n) }

  abbrev mutual
    -- the place that an expression designates
    pub place_of : Place → Run Value
    place_of (Static n) = give (Pointer (static n) 0)
    place_of (Local n) = give (Pointer (local n) 0)
    place_of (Target e) = value_in (value_of e)
    place_of (Member a offset) = do
      at ← place_of a
      in_store (λ store. member_at store offset at)

    pub value_of : Expr → Run Values
    value_of (Constant kind z) = number z
    value_of (NullPointer kind) = scalar Null
    value_of (Read x a) = do
      at ← place_of a
      read_at x at
    value_of (Address a) = do
      at ← place_of a
      scalar at
    value_of (Convert kind e) = do
      z ← number_in (value_of e)
      number (wrap kind z)
    value_of (Unary op kind e) = do
      z ← number_in (value_of e)
      number (apply_one op kind z)
    value_of (Binary op kind a b) = do
      x ← number_in (value_of a)
      y ← number_in (value_of b)
      z ← c.operates op kind x y
      number z
    value_of (Move size back a b) = do
      p ← value_in (value_of a)
      n ← number_in (value_of b)
      at ← in_store (λ store. moved_by store (bytes_moved size back n) p)
      scalar at
    value_of (MoveBy size a b) = do
      n ← number_in (value_of a)
      p ← value_in (value_of b)
      at ← in_store (λ store. moved_by store (bytes_moved size false n) p)
      scalar at
    value_of (Distance size a b) = do
      p ← value_in (value_of a)
      q ← value_in (value_of b)
      n ← checked (distance size p q)
      number n
    value_of (Compare op kind a b) = do
      x ← value_in (value_of a)
      y ← value_in (value_of b)
      answer ← checked (compare_values op x y)
      truth answer
    value_of (Not a) = do
      x ← value_in (value_of a)
      truth (not (holds x))
    value_of (And a b) = do
      x ← value_in (value_of a)
      either (holds x) (do
        y ← value_in (value_of b)
        truth (holds y)) (truth false)
    value_of (Or a b) = do
      x ← value_in (value_of a)
      either (holds x) (truth true) (do
        y ← value_in (value_of b)
        truth (holds y))
    value_of (Choose t a b) = do
      x ← value_in (value_of t)
      either (holds x) (value_of a) (value_of b)
    value_of (Comma a b) = do
      _ ← value_of a
      value_of b
    value_of (Discard a) = do
      _ ← value_of a
      give []
    value_of (Assign x a e) = do
      at ← place_of a
      vs ← stored x at (is_read e) (value_of e) (source_of e)
      _ ← used vs
      write_at x at vs
    value_of (Update a change e) = do
      at ← place_of a
      update c.operates change false (number_in (value_of e)) at
    value_of (Increment a change old) = do
      at ← place_of a
      update c.operates change old (give (pos 1)) at
    value_of (Part from x e) = do
      vs ← value_of e
      give (take (length (cells_of x)) (drop from vs))
    value_of (Call f es) = do
      vs ← values_of es
      c.calls f vs
    value_of (Serve service no_argument) = with_fuel (served c.capacity service (pos 0))
    value_of (Serve service (an_argument e)) = do
      z ← number_in (value_of e)
      with_fuel (served c.capacity service z)

    -- the place that an expression reads
    pub source_of : Expr → Run Value
    source_of (Read x a) = place_of a
    source_of e = give Null

    -- the arguments of a call, in order
    pub values_of : Exprs → Run (List Value)
    values_of no_exprs = give []
    values_of (more_exprs e rest) = do
      v ← value_in (value_of e)
      vs ← values_of rest
      give (v ∷ vs)

-- how a statement ends
pub data Flow : Type 0 where
  Next : Flow
  Broke : Flow
  Continued : Flow
  Returned : (values : Values) → Flow

-- goes on where the statement before went on
abbrev pub after : Flow → Run Flow → Run Flow
after Next next = next
after Broke next = give Broke
after Continued next = give Continued
after (Returned vs) next = give (Returned vs)

-- goes on with the next turn of a loop, or leaves it
abbrev pub after_turn : Flow → Run Flow → Run Flow
after_turn Next next = next
after_turn Broke next = give Next
after_turn Continued next = next
after_turn (Returned vs) next = give (Returned vs)

-- a `break` ends the switch
abbrev pub out_of_switch : Flow → Flow
out_of_switch Next = Next
out_of_switch Broke = Next
out_of_switch Continued = Continued
out_of_switch (Returned vs) = Returned vs

-- a test, and what it decides
abbrev pub decides : Run Values → Run Flow → Run Flow → Run Flow
decides test a b = do
  v ← value_in test
  either (holds v) a b

-- a loop that enters its body at most n times: the test; then a unit of fuel, the body, the step
abbrev pub turns : ℕ → Run Values → Run Flow → Run Values → Run Flow
turns zero test body step = decides test (with_fuel starve) (give Next)
turns (suc n) test body step = decides test (with_fuel (do
  f ← body
  after_turn f (do
    _ ← step
    turns n test body step))) (give Next)

-- where a switch enters its block
abbrev pub entered : ℤ → List Case → ℕ → ℕ
entered z [] otherwise = otherwise
entered z (k ∷ ks) otherwise = if int_eq z k.value then k.at else entered z ks otherwise

-- the object has no value in any cell
abbrev pub forgotten : Object → Store → Store
forgotten o store =
    record store { values = λ (p : Object) offset. if same_object p o then Unset else store.values p offset }

-- zero or null, where there is a cell
abbrev pub zero_or : Option Kind → Value → Value
zero_or None v = v
zero_or (Some kind) v = zero_of kind

abbrev pub kind_of_cell : Option Shape → ℕ → Option Kind
kind_of_cell None offset = None
kind_of_cell (Some shape) offset = shape.cells offset

abbrev pub is_among : ℕ → List ℕ → Bool
is_among n [] = false
is_among n (m ∷ ms) = if n == m then true else is_among n ms

-- the offsets of the cells that expressions of an initialiser give
abbrev pub given_offsets : List Piece → List ℕ
given_offsets [] = []
given_offsets (p ∷ ps) = map {A = Cell} (λ c. p.offset + c.offset) (cells_of p.access) ++ given_offsets ps

-- zero or null in each cell of the object but those at these offsets
abbrev pub cleared : List ℕ → Object → Store → Store
cleared given o store =
    record store {
      values = λ (p : Object) offset.
          let v = store.values p offset in
          if same_object p o then (if is_among offset given then v else zero_or (kind_of_cell (store.shape p) offset) v) else v;
    }

abbrev pub change_store : (Store → Store) → Run (Unit {0})
change_store f = change (λ w. record w { store = f w.store })

module _ (c : Around) where
  -- the expressions of an initialiser, each stored before the next is evaluated
  abbrev pub initialise : Object → List Piece → Run (Unit {0})
  initialise o [] = give tt
  initialise o (p ∷ ps) = do
    vs ← value_of c p.value
    _ ← used vs
    _ ← write_at p.access (Pointer o p.offset) vs
    initialise o ps

  abbrev pub returned : Option Expr → Run Flow
  returned None = give (Returned [])
  returned (Some e) = do
    v ← value_in (value_of c e)
    give (Returned (v ∷ []))

  module _ (n : ℕ) where
    -- a statement, where each loop enters its body at most n times
    abbrev mutual
      pub does : Stmt → Run Flow
      does (Do e) = do
        _ ← value_of c e
        give Next
      does (Forget x) = do
        _ ← change_store (forgotten (local c x))
        give Next
      does (Initialise x count ps) = do
        _ ← initialise (local c x) ps
        _ ← change_store (cleared (given_offsets ps) (local c x))
        give Next
      does (Block ss) = does_from 0 ss
      does (If t a b) = decides (value_of c t) (does a) (does b)
      does (While t a) = turns n (value_of c t) (does a) (give [])
      does (DoWhile a t) = with_fuel (do
        f ← does a
        after_turn f (turns n (value_of c t) (does a) (give [])))
      does (For a t step b) = do
        f ← does a
        after f (turns n (value_of c t) (does b) (value_of c step))
      does (Switch e ks otherwise ss) = do
        z ← number_in (value_of c e)
        f ← does_from (entered z ks otherwise) ss
        give (out_of_switch f)
      does Break = give Broke
      does Continue = give Continued
      does (Return e) = returned e

      -- the statements of a block from the k-th on
      pub does_from : ℕ → Stmts → Run Flow
      does_from k no_stmts = give Next
      does_from (suc k) (more_stmts s rest) = does_from k rest
      does_from zero (more_stmts s rest) = do
        f ← does s
        after f (does_from zero rest)
