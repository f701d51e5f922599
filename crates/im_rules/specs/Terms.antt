-- What an expression is typed to: an lvalue, or a value; and what the rules see of it.
use Rattle.std.specs.Prelude.{ℕ, ℤ, pos, Bool, true, false, length, Option, Some, None}
use Rattle.std.specs.Ordering.{int_eq}
use Rattle.im_ctree.specs.im_num.declared.kind.Kind.{Kind}
use Rattle.im_ctree.specs.im_num.declared.kind.Kind.TheVariants.{Ptr}
use Rattle.im_typed.specs.im_ctype.Types.{CType, void, integer, pointer, array, unsized, struct, function, Structs, kind_of}
use Rattle.im_typed.specs.im_ctype.Layout.{layout}
use Rattle.im_typed.specs.Program.{Access, Scalar, Struct, Place, Expr, Read, Address}
use Rattle.im_rules.specs.Rules.{Operand}
use Rattle.im_rules.specs.Constants.{constant_value}

-- a value: its type, and the expression of the typed program
pub record Value : Type 0 where
  pub type : CType
  pub expr : Expr

-- an lvalue (C11 6.3.2.1p1): whether it is const, its type, and its place; or a value
pub data Term : Type 0 where
  lvalue : (constant : Bool) → CType → Place → Term
  value : Value → Term

-- the kind of a cell of a scalar
abbrev pub kind_in : CType → Kind
kind_in (integer i) = kind_of i
kind_in void = Ptr
kind_in (pointer k t) = Ptr
kind_in (array e n) = Ptr
kind_in (unsized e) = Ptr
kind_in (struct n) = Ptr
kind_in (function r ps) = Ptr

-- what is read or stored at a place of that type: one cell, or each cell of a struct
abbrev pub access_of : Structs → CType → Access
access_of known (struct n) =
    let cells = (layout known (struct n)).cells in
    Struct (length cells) cells
access_of known void = Scalar (kind_in void)
access_of known (integer i) = Scalar (kind_in (integer i))
access_of known (pointer k t) = Scalar (kind_in (pointer k t))
access_of known (array e n) = Scalar (kind_in (array e n))
access_of known (unsized e) = Scalar (kind_in (unsized e))
access_of known (function r ps) = Scalar (kind_in (function r ps))

abbrev pub size_in : Structs → CType → ℕ
size_in known t = (layout known t).size

-- an lvalue is read, and an array becomes a pointer to its first element (C11 6.3.2.1p2, p3)
abbrev pub value_of : Structs → Term → Value
value_of known (lvalue c (array t n) p) = record { type = pointer c t; expr = Address p }
value_of known (lvalue c (unsized t) p) = record { type = pointer c t; expr = Address p }
value_of known (lvalue c void p) = record { type = void; expr = Read (access_of known void) p }
value_of known (lvalue c (integer i) p) = record { type = integer i; expr = Read (access_of known (integer i)) p }
value_of known (lvalue c (pointer k t) p) = record { type = pointer k t; expr = Read (access_of known (pointer k t)) p }
value_of known (lvalue c (struct n) p) = record { type = struct n; expr = Read (access_of known (struct n)) p }
value_of known (lvalue c (function r ps) p) = record { type = function r ps; expr = Read (access_of known (function r ps)) p }
value_of known (value v) = v

-- the type of an expression, an array as it is
abbrev pub type_in : Term → CType
type_in (lvalue c t p) = t
type_in (value v) = v.type

abbrev pub is_lvalue : Term → Bool
is_lvalue (lvalue c t p) = true
is_lvalue (value v) = false

abbrev pub is_constant_lvalue : Term → Bool
is_constant_lvalue (lvalue c t p) = c
is_constant_lvalue (value v) = false

-- its value as a constant expression, if it is one
abbrev pub constant_in : Term → Option ℤ
constant_in (lvalue c t p) = None
constant_in (value v) = constant_value v.expr

abbrev pub is_zero : Option ℤ → Bool
is_zero None = false
is_zero (Some z) = int_eq z (pos 0)

-- what the rules see of it
abbrev pub operand_of : Term → Operand
operand_of x = record { is_lvalue = is_lvalue x; constant = is_constant_lvalue x; type = type_in x; is_null = is_zero (constant_in x) }
