-- Numbers that a conversion leaves as they are.
use Rattle.std.proofs.Common.{◌≡◌, Bool, true, false, ℤ, pos, refl, sym, ap, ◌∙◌, arith}
use Rattle.std.proofs.lemmas.Int.{ints}
use Rattle.im_num.specs.declared.kind.Kind.{Kind}
use Rattle.im_num.specs.declared.kind.Kind.TheVariants.{I8, U8, I16, U16, I32, U32, Ptr}
use Rattle.im_num.specs.Kinds.{IsOfKind, wrap}
use Rattle.im_num.proofs.Wrapping.{wrap-of_kind, wrap-same}
use Rattle.im_store.specs.declared.operators.BinaryOp.{BinaryOp}
use Rattle.im_store.specs.declared.operators.BinaryOp.TheVariants.{Add, Subtract, Multiply, Divide, Remainder, BitAnd, BitOr, BitXor, ShiftLeft, ShiftRight}
use Rattle.im_store.specs.declared.operators.UnaryOp.{UnaryOp}
use Rattle.im_store.specs.Checks.{Checked, Fine, Bad}
use Rattle.im_store.specs.Numbers.{apply, apply_one}
use Rattle.im_store.specs.Objects.{Value, Number, Null, Pointer, Unset}
use Rattle.im_store.proofs.OfKind.{IsOperand, apply-of_kind, apply_one-of_kind}
use Rattle.im_block.specs.Meaning.{as_number, as_truth, converted, computed_one, computed, right_of}
use Rattle.im_forward.specs.Straight.{HasAllOf}

pub record IsNumber (kind : Kind) (value : Value) : Type 0 where
  pub number : ℤ
  pub is : value ≡ Number number
  pub of : IsOfKind kind number

pub fine_same : (v w : Value) → Fine v ≡ Fine w → v ≡ w
fine_same v w e = cc

-- a conversion of such a number
pub number_is : (kind : Kind) (w value : Value) → w ≡ value → IsNumber kind value → as_number (converted kind w) ≡ Fine value
number_is kind w value e n =
    ap (λ z. as_number (converted kind z)) (e ∙ n.is)
    ∙ ap (λ z. Fine (Number z)) (wrap-same kind n.number n.of)
    ∙ ap (λ z. Fine z) (sym n.is)

-- ---- what lines give

made : (kind of : Kind) (z : ℤ) (value : Value) → HasAllOf kind of → IsOfKind of z → Fine (Number z) ≡ Fine value → IsNumber kind value
made kind of z value all is e = record { number = z; is = sym (fine_same (Number z) value e); of = all z is }

pub converts_to : (kind of : Kind) (w value : Value) → HasAllOf kind of → as_number (converted of w) ≡ Fine value → IsNumber kind value
converts_to kind of (Number z) value all e = made kind of (wrap of z) value all (wrap-of_kind of z) e
converts_to kind of Null value all e = absurd cc
converts_to kind of (Pointer o i) value all e = absurd cc
converts_to kind of Unset value all e = absurd cc

pub unary_to : (kind : Kind) (op : UnaryOp) (of : Kind) (w value : Value) → HasAllOf kind of → as_number (computed_one op of w) ≡ Fine value → IsNumber kind value
unary_to kind op of (Number z) value all e = made kind of (apply_one op of (wrap of z)) value all (apply_one-of_kind op of (wrap of z)) e
unary_to kind op of Null value all e = absurd cc
unary_to kind op of (Pointer o i) value all e = absurd cc
unary_to kind op of Unset value all e = absurd cc

operand : (op : BinaryOp) (of : Kind) (z : ℤ) → IsOperand op of (right_of op of z)
operand Add of z = wrap-of_kind of z
operand Subtract of z = wrap-of_kind of z
operand Multiply of z = wrap-of_kind of z
operand Divide of z = wrap-of_kind of z
operand Remainder of z = wrap-of_kind of z
operand BitAnd of z = wrap-of_kind of z
operand BitOr of z = wrap-of_kind of z
operand BitXor of z = wrap-of_kind of z
operand ShiftLeft of z = tt
operand ShiftRight of z = tt

applied : (kind : Kind) (op : BinaryOp) (of : Kind) (a b : ℤ) (value : Value) → HasAllOf kind of → IsOfKind of a → IsOperand op of b → (c : Checked ℤ) → apply op of a b ≡ c → as_number c ≡ Fine value → IsNumber kind value
applied kind op of a b value all h k (Fine z) is e = made kind of z value all (apply-of_kind op of a b z h k is) e
applied kind op of a b value all h k (Bad why) is e = absurd cc

pub computes_to : (kind : Kind) (op : BinaryOp) (of : Kind) (v w value : Value) → HasAllOf kind of → as_number (computed op of v w) ≡ Fine value → IsNumber kind value
computes_to kind op of (Number a) (Number b) value all e =
    applied kind op of (wrap of a) (right_of op of b) value all (wrap-of_kind of a) (operand op of b) (apply op of (wrap of a) (right_of op of b)) refl e
computes_to kind op of (Number a) Null value all e = absurd cc
computes_to kind op of (Number a) (Pointer o i) value all e = absurd cc
computes_to kind op of (Number a) Unset value all e = absurd cc
computes_to kind op of Null w value all e = absurd cc
computes_to kind op of (Pointer o i) w value all e = absurd cc
computes_to kind op of Unset w value all e = absurd cc

zero_of : (kind : Kind) → IsOfKind kind (pos 0)
zero_of I8 = record { low = omega (arith, ints); high = omega (arith, ints) }
zero_of U8 = record { low = omega (arith, ints); high = omega (arith, ints) }
zero_of I16 = record { low = omega (arith, ints); high = omega (arith, ints) }
zero_of U16 = record { low = omega (arith, ints); high = omega (arith, ints) }
zero_of I32 = record { low = omega (arith, ints); high = omega (arith, ints) }
zero_of U32 = record { low = omega (arith, ints); high = omega (arith, ints) }
zero_of Ptr = record { low = omega (arith, ints); high = omega (arith, ints) }

one_of : (kind : Kind) → IsOfKind kind (pos 1)
one_of I8 = record { low = omega (arith, ints); high = omega (arith, ints) }
one_of U8 = record { low = omega (arith, ints); high = omega (arith, ints) }
one_of I16 = record { low = omega (arith, ints); high = omega (arith, ints) }
one_of U16 = record { low = omega (arith, ints); high = omega (arith, ints) }
one_of I32 = record { low = omega (arith, ints); high = omega (arith, ints) }
one_of U32 = record { low = omega (arith, ints); high = omega (arith, ints) }
one_of Ptr = record { low = omega (arith, ints); high = omega (arith, ints) }

pub truth_to : (kind : Kind) (c : Checked Bool) (value : Value) → as_truth c ≡ Fine value → IsNumber kind value
truth_to kind (Fine true) value e = record { number = pos 1; is = sym (fine_same (Number (pos 1)) value e); of = one_of kind }
truth_to kind (Fine false) value e = record { number = pos 0; is = sym (fine_same (Number (pos 0)) value e); of = zero_of kind }
truth_to kind (Bad why) value e = absurd cc
