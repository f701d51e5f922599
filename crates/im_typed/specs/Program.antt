-- The typed program as the definitions see it: plain data, with cells in the place of types.
use Rattle.std.specs.Prelude.{ℕ, Bool, List, ℤ, Option}
use Rattle.im_num.specs.declared.kind.Kind.{Kind}
use Rattle.im_store.specs.im_ctype.declared.cell.Cell.{Cell}
use Rattle.im_store.specs.declared.operators.BinaryOp.{BinaryOp}
use Rattle.im_store.specs.declared.operators.Comparison.{Comparison}
use Rattle.im_store.specs.declared.operators.UnaryOp.{UnaryOp}
use Rattle.im_store.specs.Statics.{StaticObject}
use Rattle.im_serve.specs.declared.service.Service.{Service}
use Rattle.im_typed.specs.declared.expression.Change.{Change}
use Rattle.im_typed.specs.declared.statement.Case.{Case}

-- what is read or stored at a place: one cell, or each cell of a struct, and how many these are
pub data Access : Type 0 where
  Scalar : (kind : Kind) → Access
  Struct : (count : ℕ) (cells : List Cell) → Access

mutual
  -- an lvalue (C11 6.3.2.1). Offsets are bytes
  pub data Place : Type 0 where
    Static : (number : ℕ) → Place
    Local : (number : ℕ) → Place
    Target : (pointer : Expr) → Place
    Member : (whole : Place) (offset : ℕ) → Place

  -- C11 6.5. size is the bytes of what a pointer points to
  pub data Expr : Type 0 where
    Constant : (kind : Kind) (value : ℤ) → Expr
    NullPointer : (kind : Kind) → Expr
    Read : (access : Access) (place : Place) → Expr
    Address : (place : Place) → Expr
    Convert : (kind : Kind) (operand : Expr) → Expr
    Unary : (op : UnaryOp) (kind : Kind) (operand : Expr) → Expr
    Binary : (op : BinaryOp) (kind : Kind) (left right : Expr) → Expr
    Move : (size : ℕ) (back : Bool) (pointer by : Expr) → Expr
    MoveBy : (size : ℕ) (by pointer : Expr) → Expr
    Distance : (size : ℕ) (left right : Expr) → Expr
    Compare : (op : Comparison) (kind : Kind) (left right : Expr) → Expr
    Not : (operand : Expr) → Expr
    And : (left right : Expr) → Expr
    Or : (left right : Expr) → Expr
    Choose : (test first second : Expr) → Expr
    Comma : (left right : Expr) → Expr
    Discard : (operand : Expr) → Expr
    Assign : (access : Access) (place : Place) (value : Expr) → Expr
    Update : (place : Place) (change : Change) (by : Expr) → Expr
    Increment : (place : Place) (change : Change) (old : Bool) → Expr
    Part : (from : ℕ) (access : Access) (whole : Expr) → Expr
    Call : (function : ℕ) (arguments : Exprs) → Expr
    Serve : (service : Service) (argument : Argument) → Expr

  -- what a service is given
  pub data Argument : Type 0 where
    no_argument : Argument
    an_argument : Expr → Argument

  pub data Exprs : Type 0 where
    no_exprs : Exprs
    more_exprs : Expr → Exprs → Exprs

-- an expression of an initialiser, and where in the object it goes
pub record Piece : Type 0 where
  pub offset : ℕ
  pub access : Access
  pub value : Expr

mutual
  -- C11 6.8. count is how many cells the initialised object has; otherwise is where `default` stands in the block
  pub data Stmt : Type 0 where
    Do : (value : Expr) → Stmt
    Forget : (local : ℕ) → Stmt
    Initialise : (local count : ℕ) (pieces : List Piece) → Stmt
    Block : (statements : Stmts) → Stmt
    If : (test : Expr) (first second : Stmt) → Stmt
    While : (test : Expr) (body : Stmt) → Stmt
    DoWhile : (body : Stmt) (test : Expr) → Stmt
    For : (first : Stmt) (test step : Expr) (body : Stmt) → Stmt
    Switch : (value : Expr) (cases : List Case) (otherwise : ℕ) (block : Stmts) → Stmt
    Break : Stmt
    Continue : Stmt
    Return : (value : Option Expr) → Stmt

  pub data Stmts : Type 0 where
    no_stmts : Stmts
    more_stmts : Stmt → Stmts → Stmts

-- an object that a function has: its name, its bytes and its cells
pub record LocalObject : Type 0 where
  pub name : List ℕ
  pub size : ℕ
  pub cells : List Cell

-- a function: the first of its objects are its parameters; without a kind its result is void
pub record Func : Type 0 where
  pub name : List ℕ
  pub params : ℕ
  pub result : Option Kind
  pub objects : List LocalObject
  pub body : Stmt

pub record Prog : Type 0 where
  pub statics : List StaticObject
  pub funcs : List Func
  pub main : ℕ
