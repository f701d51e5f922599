-- Well-typed programs: what the typing rules of C come to in the typed program (C11 6.5, 6.7.9, 6.8, 6.9).
use Rattle.std.specs.Prelude.{◌≡◌, ℕ, suc, ◌+◌, ◌%◌, ◌<◌, ◌≤◌, Bool, true, false, IsTrue, List, [], ◌∷◌, length, map, take, drop, ℤ, Option, Some, None, slice_get, if◌then◌else◌}
use Rattle.std.specs.Ordering.{int_eq}
use Rattle.std.specs.Option.{option_map}
use Rattle.im_num.specs.declared.kind.Kind.{Kind}
use Rattle.im_num.specs.declared.kind.Kind.TheVariants.{I8, U8, I16, U16, I32, U32, Ptr}
use Rattle.im_num.specs.Kinds.{kind_size, IsOfKind}
use Rattle.im_store.specs.im_ctype.declared.cell.Cell.{Cell}
use Rattle.im_store.specs.declared.operators.BinaryOp.{BinaryOp}
use Rattle.im_store.specs.declared.operators.BinaryOp.TheVariants.{ShiftLeft, ShiftRight}
use Rattle.im_store.specs.Objects.{Name, Named, Slot, Link, Value, Number, Null, Pointer, Unset, kind_at}
use Rattle.im_store.specs.Statics.{StaticObject}
use Rattle.im_serve.specs.Services.{row, IsNullary}
use Rattle.im_typed.specs.declared.expression.Change.{Change}
use Rattle.im_typed.specs.declared.expression.Change.TheVariants.{Number as NumberBy, Move as PointerBy}
use Rattle.im_typed.specs.declared.statement.Case.{Case}
use Rattle.im_typed.specs.Program.{Access, Scalar, Struct, Place, Static, Local, Target, Member, Expr, Constant, NullPointer, Read, Address, Convert, Unary, Binary, Move, MoveBy, Distance, Compare, Not, And, Or, Choose, Comma, Discard, Assign, Update, Increment, Part, Call, Serve, no_argument, an_argument, Exprs, no_exprs, more_exprs, Piece, Stmt, Do, Forget, Initialise, Block, If, While, DoWhile, For, Switch, Break, Continue, Return, Stmts, no_stmts, more_stmts, LocalObject, Func, Prog}
use Rattle.im_typed.specs.Values.{cells_of, changed_kind}
use Rattle.im_typed.specs.Meaning.{is_among, given_offsets}

-- each element of a list
abbrev pub Each : {A : Type 0} → (A → Type 0) → List A → Type 0
Each P [] = Unit {0}
Each P (x ∷ xs) = P x × Each P xs

-- a kind of integers
abbrev pub IsInteger : Kind → Type 0
IsInteger I8 = Unit {0}
IsInteger U8 = Unit {0}
IsInteger I16 = Unit {0}
IsInteger U16 = Unit {0}
IsInteger I32 = Unit {0}
IsInteger U32 = Unit {0}
IsInteger Ptr = ⊥

-- operators work on promoted numbers: those of a kind at least as wide as int (C11 6.3.1.8)
abbrev pub IsPromoted : Kind → Type 0
IsPromoted kind = IsInteger kind × (kind_size I32 ≤ kind_size kind)

-- promoted numbers are compared, and pointers
abbrev pub IsCompared : Kind → Type 0
IsCompared I8 = IsPromoted I8
IsCompared U8 = IsPromoted U8
IsCompared I16 = IsPromoted I16
IsCompared U16 = IsPromoted U16
IsCompared I32 = IsPromoted I32
IsCompared U32 = IsPromoted U32
IsCompared Ptr = Unit {0}

-- bytes of an element that a pointer moves over
abbrev pub IsElement : ℕ → Type 0
IsElement size = (0 < size) × (size ≤ 1048576)

-- what an expression gives: nothing, or what an access has

abbrev pub IsIntegerShape : Option Access → Type 0
IsIntegerShape None = ⊥
IsIntegerShape (Some (Scalar kind)) = IsInteger kind
IsIntegerShape (Some (Struct count cells)) = ⊥

abbrev pub IsPromotedShape : Option Access → Type 0
IsPromotedShape None = ⊥
IsPromotedShape (Some (Scalar kind)) = IsPromoted kind
IsPromotedShape (Some (Struct count cells)) = ⊥

-- a condition is an integer or a pointer
abbrev pub IsScalarShape : Option Access → Type 0
IsScalarShape None = ⊥
IsScalarShape (Some (Scalar kind)) = Unit {0}
IsScalarShape (Some (Struct count cells)) = ⊥

abbrev pub IsPointerShape : Option Access → Type 0
IsPointerShape shape = shape ≡ Some (Scalar Ptr)

-- the right operand has the left one's kind; the count of a shift is promoted by itself (C11 6.5.7)
abbrev pub IsRightShape : BinaryOp → Kind → Option Access → Type 0
IsRightShape ShiftLeft kind shape = IsPromotedShape shape
IsRightShape ShiftRight kind shape = IsPromotedShape shape
IsRightShape _ kind shape = shape ≡ Some (Scalar kind)

-- an operand of a change: a number by the operator, or so many elements
abbrev pub IsChange : Change → Option Access → Type 0
IsChange (NumberBy kind op at) shape = IsInteger kind × IsPromoted at × IsRightShape op at shape
IsChange (PointerBy size back) shape = IsElement size × IsIntegerShape shape

-- `++` and `--` change by 1
abbrev pub IsStep : Change → Type 0
IsStep (NumberBy kind op at) = IsInteger kind × IsPromoted at
IsStep (PointerBy size back) = IsElement size

abbrev pub kinds_of : List Cell → List Kind
kinds_of cells = map {A = Cell} (λ c. c.kind) cells

abbrev pub cell_offset : Option Cell → ℕ
cell_offset None = 0
cell_offset (Some c) = c.offset

-- a part's cells stand in the whole where the part's offsets say, from its first byte on
abbrev pub InPlace : ℕ → List Cell → List Cell → Type 0
InPlace base [] cells = Unit {0}
InPlace base (d ∷ ds) [] = ⊥
InPlace base (d ∷ ds) (c ∷ cs) = (c.offset ≡ base + d.offset) × (c.kind ≡ d.kind) × InPlace base ds cs

-- a part has the cells of the whole from that cell on
abbrev pub IsPart : ℕ → Access → Option Access → Type 0
IsPart from x None = ⊥
IsPart from x (Some (Scalar kind)) = ⊥
IsPart from x (Some (Struct count cells)) =
    (kinds_of (take (length (cells_of x)) (drop from cells)) ≡ kinds_of (cells_of x))
    × InPlace (cell_offset (slice_get cells from)) (cells_of x) (drop from cells)

-- cells from a place on to the end of an object: each at a multiple of its size, in order, and apart
abbrev pub AreLaidOut : ℕ → ℕ → List Cell → Type 0
AreLaidOut from size [] = from ≤ size
AreLaidOut from size (c ∷ cs) =
    (from ≤ c.offset) × (c.offset % kind_size c.kind ≡ 0) × AreLaidOut (c.offset + kind_size c.kind) size cs

-- a struct's cells are counted, and lie in it
abbrev pub IsAccess : Access → Type 0
IsAccess (Scalar kind) = Unit {0}
IsAccess (Struct count cells) = (count ≡ length cells) × (0 < count) × AreLaidOut 0 1048576 cells

-- an object of the language: at most 1048576 bytes
abbrev pub IsObject : ℕ → List Cell → Type 0
IsObject size cells = (size ≤ 1048576) × AreLaidOut 0 size cells

-- these cells, from an offset on, are cells of the object
abbrev pub StandAmong : List Cell → ℕ → List Cell → Type 0
StandAmong cells offset parts = Each {A = Cell} (λ c. kind_at cells (offset + c.offset) ≡ Some c.kind) parts

abbrev pub AreDistinct : List ℕ → Type 0
AreDistinct [] = Unit {0}
AreDistinct (n ∷ ns) = (is_among n ns ≡ false) × AreDistinct ns

-- a parameter has one cell, which takes the argument
abbrev pub TakesArgument : Option Access → List Cell → Type 0
TakesArgument None cells = ⊥
TakesArgument (Some (Scalar kind)) cells = cells ≡ cells_of (Scalar kind)
TakesArgument (Some (Struct count parts)) cells = ⊥

-- an argument of a service is of its parameter's kind
abbrev pub IsGiven : Option Kind → Option Access → Type 0
IsGiven None shape = ⊥
IsGiven (Some kind) shape = shape ≡ Some (Scalar kind)

abbrev pub parameters : Option Func → List LocalObject
parameters None = []
parameters (Some f) = take f.params f.objects

abbrev pub result_shape : Option Func → Option Access
result_shape None = None
result_shape (Some f) = option_map Scalar f.result

abbrev pub statements_in : Stmts → ℕ
statements_in no_stmts = 0
statements_in (more_stmts s rest) = suc (statements_in rest)

abbrev pub cells_at : Option LocalObject → List Cell
cells_at None = []
cells_at (Some o) = o.cells

-- labels of a switch stand in its block, have values of its kind, and differ (C11 6.8.4.2)
abbrev pub is_label : ℤ → List Case → Bool
is_label z [] = false
is_label z (k ∷ ks) = if int_eq z k.value then true else is_label z ks

abbrev pub HasValue : Option Access → ℤ → Type 0
HasValue None z = ⊥
HasValue (Some (Scalar kind)) z = IsOfKind kind z
HasValue (Some (Struct count cells)) z = ⊥

abbrev pub AreLabels : Option Access → ℕ → List Case → Type 0
AreLabels shape count [] = Unit {0}
AreLabels shape count (k ∷ ks) =
    HasValue shape k.value × (k.at ≤ count) × (is_label k.value ks ≡ false) × AreLabels shape count ks

-- bytes from the object or the pointer of a place on, through its members
abbrev pub members_offset : Place → ℕ
members_offset (Static n) = 0
members_offset (Local n) = 0
members_offset (Target e) = 0
members_offset (Member a offset) = members_offset a + offset

module _ (g : Prog) where
  -- what an expression gives
  abbrev pub shape_of : Expr → Option Access
  shape_of (Constant kind z) = Some (Scalar kind)
  shape_of (NullPointer kind) = Some (Scalar kind)
  shape_of (Read x a) = Some x
  shape_of (Address a) = Some (Scalar Ptr)
  shape_of (Convert kind e) = Some (Scalar kind)
  shape_of (Unary op kind e) = Some (Scalar kind)
  shape_of (Binary op kind a b) = Some (Scalar kind)
  shape_of (Move size back a b) = Some (Scalar Ptr)
  shape_of (MoveBy size a b) = Some (Scalar Ptr)
  shape_of (Distance size a b) = Some (Scalar I32)
  shape_of (Compare op kind a b) = Some (Scalar I32)
  shape_of (Not a) = Some (Scalar I32)
  shape_of (And a b) = Some (Scalar I32)
  shape_of (Or a b) = Some (Scalar I32)
  shape_of (Choose t a b) = shape_of a
  shape_of (Comma a b) = shape_of b
  shape_of (Discard a) = None
  shape_of (Assign x a e) = Some x
  shape_of (Update a change e) = Some (Scalar (changed_kind change))
  shape_of (Increment a change old) = Some (Scalar (changed_kind change))
  shape_of (Part from x e) = Some x
  shape_of (Call n es) = result_shape (slice_get g.funcs n)
  shape_of (Serve service a) = Some (Scalar (row service).result)

  module _ (f : Func) where
    abbrev mutual
      pub IsTypedPlace : Place → Type 0
      IsTypedPlace (Static n) = n < length g.statics
      IsTypedPlace (Local n) = n < length f.objects
      IsTypedPlace (Target e) = IsTyped e × IsPointerShape (shape_of e)
      IsTypedPlace (Member a offset) = IsTypedPlace a × (members_offset a + offset ≤ 1048576)

      pub IsTyped : Expr → Type 0
      IsTyped (Constant kind z) = IsInteger kind × IsOfKind kind z
      IsTyped (NullPointer kind) = kind ≡ Ptr
      IsTyped (Read x a) = IsAccess x × IsTypedPlace a
      IsTyped (Address a) = IsTypedPlace a
      IsTyped (Convert kind e) = IsInteger kind × IsTyped e × IsIntegerShape (shape_of e)
      IsTyped (Unary op kind e) = IsPromoted kind × IsTyped e × (shape_of e ≡ Some (Scalar kind))
      IsTyped (Binary op kind a b) =
          IsPromoted kind × IsTyped a × IsTyped b × (shape_of a ≡ Some (Scalar kind)) × IsRightShape op kind (shape_of b)
      IsTyped (Move size back a b) =
          IsElement size × IsTyped a × IsTyped b × IsPointerShape (shape_of a) × IsIntegerShape (shape_of b)
      IsTyped (MoveBy size a b) =
          IsElement size × IsTyped a × IsTyped b × IsIntegerShape (shape_of a) × IsPointerShape (shape_of b)
      IsTyped (Distance size a b) =
          IsElement size × IsTyped a × IsTyped b × IsPointerShape (shape_of a) × IsPointerShape (shape_of b)
      IsTyped (Compare op kind a b) =
          IsTyped a × IsTyped b × (shape_of a ≡ Some (Scalar kind)) × (shape_of b ≡ Some (Scalar kind)) × IsCompared kind
      IsTyped (Not a) = IsTyped a × IsScalarShape (shape_of a)
      IsTyped (And a b) = IsTyped a × IsTyped b × IsScalarShape (shape_of a) × IsScalarShape (shape_of b)
      IsTyped (Or a b) = IsTyped a × IsTyped b × IsScalarShape (shape_of a) × IsScalarShape (shape_of b)
      IsTyped (Choose t a b) =
          IsTyped t × IsTyped a × IsTyped b × IsScalarShape (shape_of t) × (shape_of a ≡ shape_of b)
      IsTyped (Comma a b) = IsTyped a × IsTyped b
      IsTyped (Discard a) = IsTyped a
      IsTyped (Assign x a e) = IsAccess x × IsTypedPlace a × IsTyped e × (shape_of e ≡ Some x)
      IsTyped (Update a change e) = IsTypedPlace a × IsTyped e × IsChange change (shape_of e)
      IsTyped (Increment a change old) = IsTypedPlace a × IsStep change
      IsTyped (Part from x e) = IsAccess x × IsTyped e × IsPart from x (shape_of e)
      IsTyped (Call n es) = (n < length g.funcs) × AreArguments (parameters (slice_get g.funcs n)) es
      IsTyped (Serve service no_argument) = IsNullary (row service).parameter
      IsTyped (Serve service (an_argument e)) = IsTyped e × IsGiven (row service).parameter (shape_of e)

      -- an argument for each parameter
      pub AreArguments : List LocalObject → Exprs → Type 0
      AreArguments [] no_exprs = Unit {0}
      AreArguments [] (more_exprs e rest) = ⊥
      AreArguments (o ∷ os) no_exprs = ⊥
      AreArguments (o ∷ os) (more_exprs e rest) =
          IsTyped e × TakesArgument (shape_of e) o.cells × AreArguments os rest

    abbrev pub IsCondition : Expr → Type 0
    IsCondition e = IsTyped e × IsScalarShape (shape_of e)

    -- an expression of an initialiser fits cells of the object
    abbrev pub IsPieceOf : List Cell → Piece → Type 0
    IsPieceOf cells p =
        IsAccess p.access × IsTyped p.value × (shape_of p.value ≡ Some p.access) × StandAmong cells p.offset (cells_of p.access)

    abbrev pub IsReturned : Option Expr → Type 0
    IsReturned None = f.result ≡ None
    IsReturned (Some e) = IsTyped e × IsScalarShape (shape_of e) × (shape_of e ≡ option_map Scalar f.result)

    abbrev mutual
      -- a statement, where a `break` or a `continue` may stand or not
      pub IsTypedStmt : (breaks continues : Bool) → Stmt → Type 0
      IsTypedStmt breaks continues (Do e) = IsTyped e
      IsTypedStmt breaks continues (Forget x) = x < length f.objects
      IsTypedStmt breaks continues (Initialise x count ps) =
          (x < length f.objects) × (count ≡ length (cells_at (slice_get f.objects x)))
          × Each (IsPieceOf (cells_at (slice_get f.objects x))) ps × AreDistinct (given_offsets ps)
      IsTypedStmt breaks continues (Block ss) = AreTyped breaks continues ss
      IsTypedStmt breaks continues (If t a b) =
          IsCondition t × IsTypedStmt breaks continues a × IsTypedStmt breaks continues b
      IsTypedStmt breaks continues (While t a) = IsCondition t × IsTypedStmt true true a
      IsTypedStmt breaks continues (DoWhile a t) = IsTypedStmt true true a × IsCondition t
      IsTypedStmt breaks continues (For a t step b) =
          IsTypedStmt breaks continues a × IsCondition t × IsTyped step × IsTypedStmt true true b
      IsTypedStmt breaks continues (Switch e ks otherwise ss) =
          IsTyped e × IsPromotedShape (shape_of e) × AreLabels (shape_of e) (statements_in ss) ks
          × (otherwise ≤ statements_in ss) × AreTyped true continues ss
      IsTypedStmt breaks continues Break = IsTrue breaks
      IsTypedStmt breaks continues Continue = IsTrue continues
      IsTypedStmt breaks continues (Return e) = IsReturned e

      pub AreTyped : (breaks continues : Bool) → Stmts → Type 0
      AreTyped breaks continues no_stmts = Unit {0}
      AreTyped breaks continues (more_stmts s rest) = IsTypedStmt breaks continues s × AreTyped breaks continues rest

-- a parameter is one cell
abbrev pub IsOneCell : List Cell → Type 0
IsOneCell [] = ⊥
IsOneCell (c ∷ []) = c.offset ≡ 0
IsOneCell (c ∷ d ∷ cs) = ⊥

abbrev pub IsTypedFunc : Prog → Func → Type 0
IsTypedFunc g f =
    (f.params ≤ length f.objects) × Each {A = LocalObject} (λ o. IsObject o.size o.cells) f.objects
    × Each {A = LocalObject} (λ o. IsOneCell o.cells) (take f.params f.objects) × IsTypedStmt g f false false f.body

-- a place in a static, or at its end
abbrev pub HasPlace : Option StaticObject → ℕ → Type 0
HasPlace None offset = ⊥
HasPlace (Some s) offset = offset ≤ s.size

abbrev pub IsStaticPlace : List StaticObject → Name → ℕ → Type 0
IsStaticPlace statics (Named n) offset = HasPlace (slice_get statics n) offset
IsStaticPlace statics (Slot n) offset = ⊥
IsStaticPlace statics Link offset = ⊥

-- a first value of a cell of a kind
abbrev pub IsFirstValue : List StaticObject → Kind → Value → Type 0
IsFirstValue statics kind (Number z) = IsInteger kind × IsOfKind kind z
IsFirstValue statics kind Null = kind ≡ Ptr
IsFirstValue statics kind (Pointer o offset) =
    (kind ≡ Ptr) × (o.activation ≡ 0) × (o.depth ≡ 0) × IsStaticPlace statics o.name offset
IsFirstValue statics kind Unset = ⊥

abbrev pub AreFirstValues : List StaticObject → List Cell → List Value → Type 0
AreFirstValues statics [] [] = Unit {0}
AreFirstValues statics [] (v ∷ vs) = ⊥
AreFirstValues statics (c ∷ cs) [] = ⊥
AreFirstValues statics (c ∷ cs) (v ∷ vs) = IsFirstValue statics c.kind v × AreFirstValues statics cs vs

abbrev pub IsTypedStatic : List StaticObject → StaticObject → Type 0
IsTypedStatic statics s = IsObject s.size s.cells × AreFirstValues statics s.cells s.first

-- `int main(void)` (C11 5.1.2.2.1)
abbrev pub IsMain : Option Func → Type 0
IsMain None = ⊥
IsMain (Some f) = (f.params ≡ 0) × (f.result ≡ Some I32)

pub record IsWellTyped (g : Prog) : Type 0 where
  pub statics : Each (IsTypedStatic g.statics) g.statics
  pub funcs : Each (IsTypedFunc g) g.funcs
  pub main : IsMain (slice_get g.funcs g.main)
