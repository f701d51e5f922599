-- A program whose constants are of at most 64 bits and a sign. A well-typed program is one.
use Rattle.std.specs.Prelude.{map, ℤ, pos, if◌then◌else◌}
use Rattle.std.specs.Option.{option_map}
use Rattle.im_store.specs.Numbers.{is_small}
use Rattle.im_store.specs.Objects as o
use Rattle.im_store.specs.Statics.{StaticObject}
use Rattle.im_typed.specs.Program.{Place, Static, Local, Target, Member, Expr, Constant, NullPointer, Read, Address, Convert, Unary, Binary, Move, MoveBy, Distance, Compare, Not, And, Or, Choose, Comma, Discard, Assign, Update, Increment, Part, Call, Serve, no_argument, an_argument, Exprs, no_exprs, more_exprs, Piece, Stmt, Do, Forget, Initialise, Block, If, While, DoWhile, For, Switch, Break, Continue, Return, Stmts, no_stmts, more_stmts, Func, Prog}

-- a number that the operators take; 0 in the place of one with more bits
abbrev pub small : ℤ → ℤ
small z = if is_small z then z else pos 0

abbrev mutual
  pub small_place : Place → Place
  small_place (Static n) = Static n
  small_place (Local n) = Local n
  small_place (Target e) = Target (small_expr e)
  small_place (Member a d) = Member (small_place a) d

  pub small_expr : Expr → Expr
  small_expr (Constant k z) = Constant k (small z)
  small_expr (NullPointer kind) = NullPointer kind
  small_expr (Read x a) = Read x (small_place a)
  small_expr (Address a) = Address (small_place a)
  small_expr (Convert k e) = Convert k (small_expr e)
  small_expr (Unary op k e) = Unary op k (small_expr e)
  small_expr (Binary op k a b) = Binary op k (small_expr a) (small_expr b)
  small_expr (Move size back a b) = Move size back (small_expr a) (small_expr b)
  small_expr (MoveBy size a b) = MoveBy size (small_expr a) (small_expr b)
  small_expr (Distance size a b) = Distance size (small_expr a) (small_expr b)
  small_expr (Compare op k a b) = Compare op k (small_expr a) (small_expr b)
  small_expr (Not a) = Not (small_expr a)
  small_expr (And a b) = And (small_expr a) (small_expr b)
  small_expr (Or a b) = Or (small_expr a) (small_expr b)
  small_expr (Choose t a b) = Choose (small_expr t) (small_expr a) (small_expr b)
  small_expr (Comma a b) = Comma (small_expr a) (small_expr b)
  small_expr (Discard a) = Discard (small_expr a)
  small_expr (Assign x a e) = Assign x (small_place a) (small_expr e)
  small_expr (Update a change e) = Update (small_place a) change (small_expr e)
  small_expr (Increment a change old) = Increment (small_place a) change old
  small_expr (Part from x e) = Part from x (small_expr e)
  small_expr (Call f es) = Call f (small_exprs es)
  small_expr (Serve service no_argument) = (Serve service no_argument)
  small_expr (Serve service (an_argument e)) = Serve service (an_argument (small_expr e))

  pub small_exprs : Exprs → Exprs
  small_exprs no_exprs = no_exprs
  small_exprs (more_exprs e rest) = more_exprs (small_expr e) (small_exprs rest)

abbrev pub small_piece : Piece → Piece
small_piece p = record { offset = p.offset; access = p.access; value = small_expr p.value }

abbrev mutual
  pub small_stmt : Stmt → Stmt
  small_stmt (Do e) = Do (small_expr e)
  small_stmt (Forget x) = Forget x
  small_stmt (Initialise x count ps) = Initialise x count (map small_piece ps)
  small_stmt (Block ss) = Block (small_stmts ss)
  small_stmt (If t a b) = If (small_expr t) (small_stmt a) (small_stmt b)
  small_stmt (While t a) = While (small_expr t) (small_stmt a)
  small_stmt (DoWhile a t) = DoWhile (small_stmt a) (small_expr t)
  small_stmt (For a t step b) = For (small_stmt a) (small_expr t) (small_expr step) (small_stmt b)
  small_stmt (Switch e ks otherwise ss) = Switch (small_expr e) ks otherwise (small_stmts ss)
  small_stmt Break = Break
  small_stmt Continue = Continue
  small_stmt (Return e) = Return (option_map small_expr e)

  pub small_stmts : Stmts → Stmts
  small_stmts no_stmts = no_stmts
  small_stmts (more_stmts s rest) = more_stmts (small_stmt s) (small_stmts rest)

abbrev pub small_func : Func → Func
small_func f = record f { body = small_stmt f.body }

abbrev pub small_value : o.Value → o.Value
small_value (o.Number z) = o.Number (small z)
small_value o.Null = o.Null
small_value (o.Pointer p offset) = o.Pointer p offset
small_value o.Unset = o.Unset

abbrev pub small_static : StaticObject → StaticObject
small_static s = record s { first = map small_value s.first }

abbrev pub small_prog : Prog → Prog
small_prog g = record { statics = map small_static g.statics; funcs = map small_func g.funcs; main = g.main }
