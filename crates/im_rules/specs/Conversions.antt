-- What a node becomes where its rules hold: each conversion is written out (C11 6.3, 6.5). These are functions of its
-- parts' terms; what an ill-typed node would become doesn't matter.
use Rattle.std.specs.Prelude.{ℕ, ◌+◌, ℤ, pos, Bool, true, false, ◌||◌, ◌&&◌, nat_le, nat_lt, List, [], ◌∷◌, length, Option, Some, None, if◌then◌else◌}
use Rattle.im_ctree.specs.im_word.Words.{Name}
use Rattle.im_ctree.specs.im_num.declared.kind.Kind.TheVariants.{Ptr}
use Rattle.im_ctree.specs.im_tok.declared.number.NumberType.{NumberType}
use Rattle.im_ctree.specs.im_tok.declared.number.NumberType.TheVariants as number
use Rattle.im_ctree.specs.declared.operator.StepOp.{StepOp}
use Rattle.im_ctree.specs.declared.operator.StepOp.TheVariants as step
use Rattle.im_ctree.specs.declared.operator.UnaryOp.{UnaryOp}
use Rattle.im_ctree.specs.declared.operator.UnaryOp.TheVariants as o
use Rattle.im_ctree.specs.declared.operator.BinaryOp.{BinaryOp}
use Rattle.im_ctree.specs.declared.operator.BinaryOp.TheVariants as b
use Rattle.im_ctree.specs.declared.operator.AssignOp.{AssignOp}
use Rattle.im_ctree.specs.declared.operator.AssignOp.TheVariants as a
use Rattle.im_typed.specs.im_store.declared.operators.BinaryOp as store_op
use Rattle.im_typed.specs.im_store.declared.operators.BinaryOp.TheVariants as s
use Rattle.im_typed.specs.im_store.declared.operators.Comparison.{Comparison}
use Rattle.im_typed.specs.im_store.declared.operators.UnaryOp as store_unary
use Rattle.im_typed.specs.im_store.declared.operators.UnaryOp.TheVariants as u
use Rattle.im_typed.specs.im_store.Objects.{same_kind}
use Rattle.im_typed.specs.im_ctype.declared.integer.Integer.{Integer}
use Rattle.im_typed.specs.im_ctype.declared.integer.Integer.TheVariants.{Char, SignedChar, UnsignedChar, Short, UnsignedShort, Int, UnsignedInt, Long, UnsignedLong}
use Rattle.im_typed.specs.im_ctype.declared.integer.Traits.{Traits}
use Rattle.im_typed.specs.im_ctype.declared.member.MemberPlace.{MemberPlace}
use Rattle.im_typed.specs.im_ctype.Types.{CType, void, integer, pointer, array, unsized, struct, function, CTypes, no_types, more_types, Member, Structs, is_integer, is_pointer, same_bool, kind_of, traits, members_of}
use Rattle.im_typed.specs.im_ctype.Members.{places}
use Rattle.im_typed.specs.declared.expression.Change.{Change}
use Rattle.im_typed.specs.declared.expression.Change.TheVariants.{Number as NumberBy, Move as PointerBy}
use Rattle.im_typed.specs.Program.{Place, Static, Local, Target, Member as MemberAt, Expr, Constant, NullPointer, Address, Convert, Unary, Binary, Move, MoveBy, Distance, Compare, Not, And, Or, Choose, Comma, Discard, Assign, Update, Increment, Part, Call, Serve, Argument, no_argument, an_argument, Exprs, no_exprs, more_exprs}
use Rattle.im_rules.specs.Rules.{Work, either_holds, both_hold, of_numbers, by_count, sum_of, difference_of, comparison_of, operator}
use Rattle.im_rules.specs.TypeTests.{same_name, target_of, target_constant, result_of, parameters_of}
use Rattle.im_rules.specs.Scopes.{Entity, an_object, a_function, an_enumerator, Storage, static_object, local_object, Callee, a_body, no_body, a_service}
use Rattle.im_rules.specs.Terms.{Value, Term, lvalue, value, kind_in, access_of, size_in, value_of}

-- a conversion to an integer type is written where the kinds differ (C11 6.3.1.3)
abbrev pub as_integer : Integer → Value → Expr
as_integer i v = if same_kind (kind_of i) (kind_in v.type) then v.expr else Convert (kind_of i) v.expr

-- where a pointer is wanted an integer is null (C11 6.3.2.3p3)
abbrev pub as_pointer : Value → Expr
as_pointer v = if is_pointer v.type then v.expr else NullPointer Ptr

-- a value that fits a type, as that type
abbrev pub as_type : CType → Value → Expr
as_type (integer i) v = as_integer i v
as_type (pointer k t) v = as_pointer v
as_type void v = v.expr
as_type (array e n) v = v.expr
as_type (unsized e) v = v.expr
as_type (struct n) v = v.expr
as_type (function r ps) v = v.expr

-- whether a type has all values of another
abbrev pub has_all_of : Traits → Traits → Bool
has_all_of t u =
    if u.is_signed then t.is_signed && nat_le u.bits t.bits
    else (if t.is_signed then nat_lt u.bits t.bits else nat_le u.bits t.bits)

-- integer promotions (C11 6.3.1.1p2): a type of no greater rank than int becomes int where int has all of its values,
-- and else unsigned int; the other types stay
abbrev pub promoted : Integer → Integer
promoted i =
    if nat_lt (traits Int).rank (traits i).rank then i
    else (if has_all_of (traits Int) (traits i) then Int else UnsignedInt)

-- the unsigned type that corresponds to a type (C11 6.2.5p6)
abbrev pub to_unsigned : Integer → Integer
to_unsigned Char = UnsignedChar
to_unsigned SignedChar = UnsignedChar
to_unsigned UnsignedChar = UnsignedChar
to_unsigned Short = UnsignedShort
to_unsigned UnsignedShort = UnsignedShort
to_unsigned Int = UnsignedInt
to_unsigned UnsignedInt = UnsignedInt
to_unsigned Long = UnsignedLong
to_unsigned UnsignedLong = UnsignedLong

-- the common type of a signed and an unsigned one (C11 6.3.1.8p1): the unsigned one, unless the signed one has the
-- greater rank; then this one, where it has all values of the other, and else the unsigned type that corresponds to it
abbrev pub mixed : (signed unsigned : Integer) → Integer
mixed signed unsigned =
    if nat_le (traits signed).rank (traits unsigned).rank then unsigned
    else (if has_all_of (traits signed) (traits unsigned) then signed else to_unsigned signed)

-- the common type of two promoted ones (C11 6.3.1.8p1): of two signed or two unsigned ones that of the greater rank
abbrev pub usual : Integer → Integer → Integer
usual i j =
    if same_bool (traits i).is_signed (traits j).is_signed then (if nat_lt (traits i).rank (traits j).rank then j else i)
    else (if (traits i).is_signed then mixed i j else mixed j i)

-- the integer type of a value
abbrev pub integer_of : CType → Integer
integer_of (integer i) = i
integer_of void = Int
integer_of (pointer k t) = Int
integer_of (array e n) = Int
integer_of (unsized e) = Int
integer_of (struct n) = Int
integer_of (function r ps) = Int

abbrev pub common : CType → CType → Integer
common x y = usual (promoted (integer_of x)) (promoted (integer_of y))

abbrev pub of_integer : Integer → Expr → Value
of_integer i e = record { type = integer i; expr = e }

abbrev pub int_value : Expr → Value
int_value e = of_integer Int e

-- constants (C11 6.4.4)

abbrev pub number_type : NumberType → Integer
number_type number.Int = Int
number_type number.UnsignedInt = UnsignedInt
number_type number.Long = Long
number_type number.UnsignedLong = UnsignedLong

abbrev pub literal : Integer → ℤ → Value
literal i z = of_integer i (Constant (kind_of i) z)

-- `sizeof` (C11 6.5.3.4): size_t is unsigned int
abbrev pub measured : Structs → CType → Value
measured known t = literal UnsignedInt (pos (size_in known t))

-- names (C11 6.5.1)

abbrev pub stored : Storage → Place
stored (static_object n) = Static n
stored (local_object n) = Local n

abbrev pub called : Option Entity → Term
called (Some (an_object k t s)) = lvalue k t (stored s)
called (Some (an_enumerator z)) = value (literal Int z)
called _ = value (int_value (NullPointer Ptr))

-- the static that a string literal is: its bytes and a zero
abbrev pub string_term : ℕ → Name → Term
string_term n bytes = lvalue false (array (integer Char) (length bytes + 1)) (Static n)

-- binary operators (C11 6.5.5 to 6.5.14)

-- both operands in their common type
abbrev pub arithmetic : store_op.BinaryOp → Value → Value → Value
arithmetic op x y =
    let i = common x.type y.type in
    of_integer i (Binary op (kind_of i) (as_integer i x) (as_integer i y))

-- each operand promoted by itself (C11 6.5.7p3)
abbrev pub shifted : store_op.BinaryOp → Value → Value → Value
shifted op x y =
    let i = promoted (integer_of x.type) in
    of_integer i (Binary op (kind_of i) (as_integer i x) (as_integer (promoted (integer_of y.type)) y))

abbrev pub element_size : Structs → CType → ℕ
element_size known t = size_in known (target_of t)

-- a pointer and an integer, in the order in which they stand (C11 6.5.6p8)
abbrev pub moved : Structs → Value → Value → Value
moved known x y =
    if is_pointer x.type then record { type = x.type; expr = Move (element_size known x.type) false x.expr y.expr }
    else record { type = y.type; expr = MoveBy (element_size known y.type) x.expr y.expr }

abbrev pub sum : Structs → Value → Value → Value
sum known x y = if is_pointer x.type || is_pointer y.type then moved known x y else arithmetic s.Add x y

abbrev pub difference : Structs → Value → Value → Value
difference known x y =
    if is_pointer x.type && is_pointer y.type then int_value (Distance (element_size known x.type) x.expr y.expr)
    else if is_pointer x.type then record { type = x.type; expr = Move (element_size known x.type) true x.expr y.expr }
    else arithmetic s.Subtract x y

abbrev pub comparison : Comparison → Value → Value → Value
comparison op x y =
    if is_pointer x.type || is_pointer y.type then int_value (Compare op Ptr (as_pointer x) (as_pointer y))
    else (let i = common x.type y.type in int_value (Compare op (kind_of i) (as_integer i x) (as_integer i y)))

abbrev pub worked : Structs → Work → Value → Value → Value
worked known either_holds x y = int_value (Or x.expr y.expr)
worked known both_hold x y = int_value (And x.expr y.expr)
worked known (of_numbers op) x y = arithmetic op x y
worked known (by_count op) x y = shifted op x y
worked known sum_of x y = sum known x y
worked known difference_of x y = difference known x y
worked known (comparison_of op) x y = comparison op x y

abbrev pub operation : Structs → BinaryOp → Value → Value → Value
operation known op x y = worked known (operator op).work x y

-- what a pointer points to (C11 6.5.3.2p4)
abbrev pub pointed : Value → Term
pointed v = lvalue (target_constant v.type) (target_of v.type) (Target v.expr)

-- `&` of an lvalue (C11 6.5.3.2p3)
abbrev pub addressed : Term → Value
addressed (lvalue k t p) = record { type = pointer k t; expr = Address p }
addressed (value v) = v

abbrev pub promoted_value : Value → Value
promoted_value v =
    let i = promoted (integer_of v.type) in
    of_integer i (as_integer i v)

abbrev pub unary_value : store_unary.UnaryOp → Value → Value
unary_value op v =
    let i = promoted (integer_of v.type) in
    of_integer i (Unary op (kind_of i) (as_integer i v))

abbrev pub unary_term : Structs → UnaryOp → Term → Term
unary_term known o.AddressOf x = value (addressed x)
unary_term known o.Dereference x = pointed (value_of known x)
unary_term known o.Plus x = value (promoted_value (value_of known x))
unary_term known o.Minus x = value (unary_value u.Negate (value_of known x))
unary_term known o.BitNot x = value (unary_value u.Complement (value_of known x))
unary_term known o.Not x = value (int_value (Not (value_of known x).expr))

-- members (C11 6.5.2.3)

-- the place of the member of that name
abbrev pub place_among : Name → List Member → List MemberPlace → MemberPlace
place_among x (m ∷ ms) (p ∷ ps) = if same_name m.name x then p else place_among x ms ps
place_among x ms ps = record { offset = 0; first_cell = 0 }

abbrev pub member_among : Name → List Member → Member
member_among x [] = record { name = x; constant = false; type = void }
member_among x (m ∷ ms) = if same_name m.name x then m else member_among x ms

abbrev pub struct_number : CType → ℕ
struct_number (struct n) = n
struct_number t = 0

-- a member is const where it is so itself, or the struct is
abbrev pub member_at : Structs → Bool → CType → Place → Name → Term
member_at known k t p x =
    let n = struct_number t in
    let m = member_among x (members_of known n) in
    lvalue (k || m.constant) m.type (MemberAt p (place_among x (members_of known n) (places known n)).offset)

abbrev pub part_of : Structs → Value → Name → Value
part_of known v x =
    let n = struct_number v.type in
    let m = member_among x (members_of known n) in
    record { type = m.type; expr = Part (place_among x (members_of known n) (places known n)).first_cell (access_of known m.type) v.expr }

abbrev pub dotted : Structs → Term → Name → Term
dotted known (lvalue k t p) x = member_at known k t p x
dotted known (value v) x = value (part_of known v x)

abbrev pub arrowed : Structs → Value → Name → Term
arrowed known v x = member_at known (target_constant v.type) (target_of v.type) (Target v.expr) x

-- assignments (C11 6.5.16)

-- the operator of a compound assignment
abbrev pub operator_of : AssignOp → Option BinaryOp
operator_of a.Plain = None
operator_of a.Multiply = Some b.Multiply
operator_of a.Divide = Some b.Divide
operator_of a.Remainder = Some b.Remainder
operator_of a.Add = Some b.Add
operator_of a.Subtract = Some b.Subtract
operator_of a.ShiftLeft = Some b.ShiftLeft
operator_of a.ShiftRight = Some b.ShiftRight
operator_of a.BitAnd = Some b.BitAnd
operator_of a.BitXor = Some b.BitXor
operator_of a.BitOr = Some b.BitOr

-- the operator on numbers; a connective and a comparison have none, and stand in no compound assignment
abbrev pub number_operator : Work → store_op.BinaryOp
number_operator (of_numbers op) = op
number_operator (by_count op) = op
number_operator sum_of = s.Add
number_operator difference_of = s.Subtract
number_operator either_holds = s.Add
number_operator both_hold = s.Add
number_operator (comparison_of op) = s.Add

abbrev pub store_operator : BinaryOp → store_op.BinaryOp
store_operator op = number_operator (operator op).work

abbrev pub has_count : Work → Bool
has_count (by_count op) = true
has_count _ = false

abbrev pub is_shift : BinaryOp → Bool
is_shift op = has_count (operator op).work

abbrev pub is_difference : Work → Bool
is_difference difference_of = true
is_difference _ = false

abbrev pub is_subtraction : BinaryOp → Bool
is_subtraction op = is_difference (operator op).work

-- the type in which `a op= b` is computed: of a shift the left operand's
abbrev pub computed_in : BinaryOp → CType → CType → Integer
computed_in op x y = if is_shift op then promoted (integer_of x) else common x y

-- the right operand of `a op= b`: of a shift it is promoted by itself
abbrev pub changed_by : BinaryOp → CType → Value → Expr
changed_by op x v = as_integer (if is_shift op then promoted (integer_of v.type) else common x v.type) v

abbrev pub updated : Structs → BinaryOp → CType → Place → Value → Expr
updated known op (integer i) p v =
    Update p (NumberBy (kind_of i) (store_operator op) (kind_of (computed_in op (integer i) v.type))) (changed_by op (integer i) v)
updated known op void p v = Update p (PointerBy (element_size known void) (is_subtraction op)) v.expr
updated known op (pointer k t) p v = Update p (PointerBy (element_size known (pointer k t)) (is_subtraction op)) v.expr
updated known op (array e n) p v = Update p (PointerBy (element_size known (array e n)) (is_subtraction op)) v.expr
updated known op (unsized e) p v = Update p (PointerBy (element_size known (unsized e)) (is_subtraction op)) v.expr
updated known op (struct n) p v = Update p (PointerBy (element_size known (struct n)) (is_subtraction op)) v.expr
updated known op (function r ps) p v = Update p (PointerBy (element_size known (function r ps)) (is_subtraction op)) v.expr

abbrev pub assigned_by : Structs → Option BinaryOp → CType → Place → Value → Expr
assigned_by known None t p v = Assign (access_of known t) p (as_type t v)
assigned_by known (Some op) t p v = updated known op t p v

-- what is no lvalue isn't assigned to
abbrev pub assigned : Structs → AssignOp → Term → Value → Value
assigned known op (lvalue k t p) v = record { type = t; expr = assigned_by known (operator_of op) t p v }
assigned known op (value w) v = v

-- `++` and `--` (C11 6.5.2.4, 6.5.3.1): a change by 1

abbrev pub is_decrement : StepOp → Bool
is_decrement step.Increment = false
is_decrement step.Decrement = true

abbrev pub step_of : Structs → StepOp → CType → Change
step_of known op (integer i) = NumberBy (kind_of i) (if is_decrement op then s.Subtract else s.Add) (kind_of (promoted i))
step_of known op void = PointerBy (element_size known void) (is_decrement op)
step_of known op (pointer k t) = PointerBy (element_size known (pointer k t)) (is_decrement op)
step_of known op (array e n) = PointerBy (element_size known (array e n)) (is_decrement op)
step_of known op (unsized e) = PointerBy (element_size known (unsized e)) (is_decrement op)
step_of known op (struct n) = PointerBy (element_size known (struct n)) (is_decrement op)
step_of known op (function r ps) = PointerBy (element_size known (function r ps)) (is_decrement op)

-- with `old` the value is the one before
abbrev pub stepped : Structs → StepOp → Bool → Term → Value
stepped known op old (lvalue k t p) = record { type = t; expr = Increment p (step_of known op t) old }
stepped known op old (value v) = v

-- casts (C11 6.5.4)
abbrev pub casted : CType → Value → Value
casted (integer i) v = of_integer i (as_integer i v)
casted void v = record { type = void; expr = Discard v.expr }
casted (pointer k t) v = record { type = pointer k t; expr = Discard v.expr }
casted (array e n) v = record { type = array e n; expr = Discard v.expr }
casted (unsized e) v = record { type = unsized e; expr = Discard v.expr }
casted (struct n) v = record { type = struct n; expr = Discard v.expr }
casted (function r ps) v = record { type = function r ps; expr = Discard v.expr }

-- `?:` (C11 6.5.15p5, p6)
abbrev pub chosen : Structs → Value → Value → Value → Value
chosen known w x y =
    if is_pointer x.type || is_pointer y.type then record { type = if is_pointer x.type then x.type else y.type; expr = Choose w.expr (as_pointer x) (as_pointer y) }
    else if is_integer x.type then (let i = common x.type y.type in of_integer i (Choose w.expr (as_integer i x) (as_integer i y)))
    else record { type = x.type; expr = Choose w.expr x.expr y.expr }

-- `,` (C11 6.5.17)
abbrev pub joined : Value → Value → Value
joined x y = record { type = y.type; expr = Comma x.expr y.expr }

-- calls (C11 6.5.2.2): each argument is converted to its parameter's type

abbrev pub converted : Structs → CTypes → List Term → Exprs
converted known no_types xs = no_exprs
converted known (more_types p ps) [] = no_exprs
converted known (more_types p ps) (x ∷ xs) = more_exprs (as_type p (value_of known x)) (converted known ps xs)

abbrev pub first_of : Exprs → Expr
first_of no_exprs = NullPointer Ptr
first_of (more_exprs e es) = e

-- what a service is given
abbrev pub argument_in : Exprs → Argument
argument_in no_exprs = no_argument
argument_in (more_exprs e es) = an_argument e

abbrev pub call_by : Callee → Exprs → Expr
call_by (a_body n) es = Call n es
call_by no_body es = NullPointer Ptr
call_by (a_service service) es = Serve service (argument_in es)

abbrev pub call_of : Structs → Option Entity → List Term → Value
call_of known (Some (a_function f c t)) xs = record { type = result_of t; expr = call_by f (converted known (parameters_of t) xs) }
call_of known e xs = int_value (NullPointer Ptr)
