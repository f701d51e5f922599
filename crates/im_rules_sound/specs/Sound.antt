-- Terms whose expressions are well typed, each by what its type asks.
use Rattle.std.specs.Prelude.{◌≡◌, ◌+◌, ◌<◌, ◌≤◌, ◌||◌, true, false, List, [], ◌∷◌, length, Option, Some, None, slice_get}
use Rattle.im_num.specs.declared.kind.Kind.TheVariants.{Ptr}
use Rattle.im_ctype.specs.declared.integer.Integer.TheVariants.{Int}
use Rattle.im_ctype.specs.Types.{CType, void, integer, pointer, array, unsized, struct, function, CTypes, no_types, more_types, Structs, kind_of, is_void, is_integer, is_array, is_pointer, is_struct, is_function}
use Rattle.im_typed.specs.Program.{Access, Scalar, Place, LocalObject, Func, Prog}
use Rattle.im_typed.specs.Values.{cells_of}
use Rattle.im_typed.specs.Typing.{Each, parameters, result_shape, shape_of, IsTypedPlace, IsTyped, IsElement, IsAccess, members_offset}
use Rattle.im_rules.specs.FileScope.{service_type}
use Rattle.im_rules.specs.TypeTests.{points_to_complete, result_of, parameters_of}
use Rattle.im_rules.specs.Scopes.{Callee, a_body, no_body, a_service}
use Rattle.im_rules.specs.Terms.{Value, Term, lvalue, value, kind_in, access_of, size_in}
use Rattle.im_rules.specs.Conversions.{element_size}

-- what an expression of a type gives
abbrev pub gives : Structs → CType → Option Access
gives known void = None
gives known (integer i) = Some (Scalar (kind_of i))
gives known (pointer k t) = Some (Scalar Ptr)
gives known (array t n) = None
gives known (unsized t) = None
gives known (struct n) = Some (access_of known (struct n))
gives known (function r ps) = None

-- a value's expression is well typed, and gives what its type says, which is no array (C11 6.3.2.1p3)
pub record IsSoundValue (g : Prog) (f : Func) (known : Structs) (v : Value) : Type 0 where
  pub plain : is_array v.type ≡ false
  pub typed : IsTyped g f v.expr
  pub shape : shape_of g v.expr ≡ gives known v.type

-- what a pointer to a complete type points to is an element of one byte or more, of at most 1048576
abbrev pub MovesWell : Structs → CType → Type 0
MovesWell known t = points_to_complete known t ≡ true → IsElement (element_size known t)

-- an object of this type is at most 1048576 bytes, and a struct has cells that lie in it
pub record IsSized (known : Structs) (t : CType) : Type 0 where
  pub size : size_in known t ≤ 1048576
  pub struct : is_struct t ≡ true → IsAccess (access_of known t)

-- an lvalue's place is well typed, and is of an object type
pub record IsSoundPlace (g : Prog) (f : Func) (known : Structs) (t : CType) (p : Place) : Type 0 where
  pub typed : IsTypedPlace g f p
  pub fits : members_offset p + size_in known t ≤ 1048576
  pub object : (is_void t || is_function t) ≡ false
  pub sized : IsSized known t

abbrev pub IsSoundTerm : Prog → Func → Structs → Term → Type 0
IsSoundTerm g f known (lvalue k t p) = IsSoundPlace g f known t p
IsSoundTerm g f known (value v) = IsSoundValue g f known v

abbrev pub AreSound : Prog → Func → Structs → List Term → Type 0
AreSound g f known xs = Each (IsSoundTerm g f known) xs

-- each parameter is one cell of its type, which is an integer or a pointer
abbrev pub TakeTypes : CTypes → List LocalObject → Type 0
TakeTypes no_types [] = Unit {0}
TakeTypes no_types (o ∷ os) = ⊥
TakeTypes (more_types p ps) [] = ⊥
TakeTypes (more_types p ps) (o ∷ os) = (o.cells ≡ cells_of (Scalar (kind_in p))) × ((is_integer p || is_pointer p) ≡ true) × TakeTypes ps os

-- what is called is a function of the program, with these parameters and this result, or a built-in function
abbrev pub IsSoundCallee : Prog → Structs → Callee → CType → Type 0
IsSoundCallee g known (a_body n) t =
    (n < length g.funcs) × TakeTypes (parameters_of t) (parameters (slice_get g.funcs n))
    × (result_shape (slice_get g.funcs n) ≡ gives known (result_of t)) × (is_array (result_of t) ≡ false)
IsSoundCallee g known no_body t = Unit {0}
IsSoundCallee g known (a_service s) t = t ≡ service_type s
