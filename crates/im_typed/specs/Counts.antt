-- How many nodes a function has, and the bytes that its frame may need.
use Rattle.std.specs.Prelude.{ℕ, ◌+◌, ◌*◌, ◌/◌, length, sum_by, Option, Some, None, if◌then◌else◌}
use Rattle.im_store.specs.Objects.{same_kind}
use Rattle.im_typed.specs.declared.expression.Change.{Change}
use Rattle.im_typed.specs.declared.expression.Change.TheVariants.{Number as NumberBy, Move as PointerBy}
use Rattle.im_typed.specs.Program.{Access, Scalar, Struct, Place, Static, Local, Target, Member, Expr, Constant, NullPointer, Read, Address, Convert, Unary, Binary, Move, MoveBy, Distance, Compare, Not, And, Or, Choose, Comma, Discard, Assign, Update, Increment, Part, Call, Serve, no_argument, an_argument, Exprs, no_exprs, more_exprs, Piece, Stmt, Do, Forget, Initialise, Block, If, While, DoWhile, For, Switch, Break, Continue, Return, Stmts, no_stmts, more_stmts, LocalObject, Func, Prog}

-- the cells of a struct assignment
abbrev pub struct_cells : Access → ℕ
struct_cells (Scalar kind) = 0
struct_cells (Struct count cells) = count

-- the conversions that an update holds: of the old value, and of the result
abbrev pub conversions_in : Change → ℕ
conversions_in (NumberBy kind op at) = if same_kind kind at then 0 else 2
conversions_in (PointerBy size back) = 0

-- each place, expression and conversion
abbrev mutual
  pub place_nodes : Place → ℕ
  place_nodes (Static n) = 1
  place_nodes (Local n) = 1
  place_nodes (Target e) = 1 + expr_nodes e
  place_nodes (Member a offset) = 1 + place_nodes a

  pub expr_nodes : Expr → ℕ
  expr_nodes (Constant kind z) = 1
  expr_nodes (NullPointer kind) = 1
  expr_nodes (Read x a) = 1 + place_nodes a
  expr_nodes (Address a) = 1 + place_nodes a
  expr_nodes (Convert kind e) = 1 + expr_nodes e
  expr_nodes (Unary op kind e) = 1 + expr_nodes e
  expr_nodes (Binary op kind a b) = 1 + expr_nodes a + expr_nodes b
  expr_nodes (Move size back a b) = 1 + expr_nodes a + expr_nodes b
  expr_nodes (MoveBy size a b) = 1 + expr_nodes a + expr_nodes b
  expr_nodes (Distance size a b) = 1 + expr_nodes a + expr_nodes b
  expr_nodes (Compare op kind a b) = 1 + expr_nodes a + expr_nodes b
  expr_nodes (Not a) = 1 + expr_nodes a
  expr_nodes (And a b) = 1 + expr_nodes a + expr_nodes b
  expr_nodes (Or a b) = 1 + expr_nodes a + expr_nodes b
  expr_nodes (Choose t a b) = 1 + expr_nodes t + expr_nodes a + expr_nodes b
  expr_nodes (Comma a b) = 1 + expr_nodes a + expr_nodes b
  expr_nodes (Discard a) = 1 + expr_nodes a
  expr_nodes (Assign x a e) = 1 + struct_cells x + place_nodes a + expr_nodes e
  expr_nodes (Update a change e) = 1 + conversions_in change + place_nodes a + expr_nodes e
  expr_nodes (Increment a change old) = 1 + conversions_in change + place_nodes a
  expr_nodes (Part from x e) = 1 + expr_nodes e
  expr_nodes (Call f es) = 1 + exprs_nodes es
  expr_nodes (Serve service no_argument) = 1
  expr_nodes (Serve service (an_argument e)) = 1 + expr_nodes e

  pub exprs_nodes : Exprs → ℕ
  exprs_nodes no_exprs = 0
  exprs_nodes (more_exprs e rest) = expr_nodes e + exprs_nodes rest

abbrev pub optional_nodes : Option Expr → ℕ
optional_nodes None = 0
optional_nodes (Some e) = expr_nodes e

abbrev pub piece_nodes : Piece → ℕ
piece_nodes p = expr_nodes p.value

-- each statement, with all that it holds; of an initialised object also its cells, and of a switch also each `case` label,
-- which is a statement with a constant expression (C11 6.8.1): 2 nodes
abbrev mutual
  pub stmt_nodes : Stmt → ℕ
  stmt_nodes (Do e) = 1 + expr_nodes e
  stmt_nodes (Forget x) = 1
  stmt_nodes (Initialise x count ps) = 1 + count + sum_by piece_nodes ps
  stmt_nodes (Block ss) = 1 + stmts_nodes ss
  stmt_nodes (If t a b) = 1 + expr_nodes t + stmt_nodes a + stmt_nodes b
  stmt_nodes (While t a) = 1 + expr_nodes t + stmt_nodes a
  stmt_nodes (DoWhile a t) = 1 + stmt_nodes a + expr_nodes t
  stmt_nodes (For a t step b) = 1 + stmt_nodes a + expr_nodes t + expr_nodes step + stmt_nodes b
  stmt_nodes (Switch e ks otherwise ss) = 1 + expr_nodes e + 2 * length ks + stmts_nodes ss
  stmt_nodes Break = 1
  stmt_nodes Continue = 1
  stmt_nodes (Return e) = 1 + optional_nodes e

  pub stmts_nodes : Stmts → ℕ
  stmts_nodes no_stmts = 0
  stmts_nodes (more_stmts s rest) = stmt_nodes s + stmts_nodes rest

-- nodes of a function: its parameters and local objects, and all of its body
abbrev pub func_nodes : Func → ℕ
func_nodes f = length f.objects + stmt_nodes f.body

-- nodes of a program: those of its functions, and the functions
abbrev pub prog_nodes : Prog → ℕ
prog_nodes g = sum_by func_nodes g.funcs + length g.funcs

-- the bytes of a word-aligned object and of the unused word behind it
abbrev pub slot_bytes : LocalObject → ℕ
slot_bytes o = (o.size + 3) / 4 * 4 + 4

-- the bytes that a function's frame may need
abbrev pub func_need : Func → ℕ
func_need f = 16 + 12 * func_nodes f + sum_by slot_bytes f.objects
