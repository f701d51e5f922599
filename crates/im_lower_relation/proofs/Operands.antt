-- Operators, conversions and truth values in block code, on operands of their kinds.
use Rattle.std.proofs.Common.{◌≡◌, ℕ, Bool, true, false, refl, sym, ap, ◌∙◌, arith}
use Rattle.std.specs.Prelude.{Option, Some, None, ℤ, pos, not, if◌then◌else◌}
use Rattle.std.proofs.lemmas.Int.{ints}
use Rattle.im_num.specs.declared.kind.Kind.{Kind}
use Rattle.im_num.specs.declared.kind.Kind.TheVariants.{I8, U8, I16, U16, I32, U32, Ptr}
use Rattle.im_num.specs.Kinds.{IsOfKind, wrap, word}
use Rattle.im_num.proofs.Wrapping.{wrap-same}
use Rattle.im_store.specs.declared.operators.BinaryOp.{BinaryOp}
use Rattle.im_store.specs.declared.operators.BinaryOp.TheVariants.{Add, Subtract, Multiply, Divide, Remainder, BitAnd, BitOr, BitXor, ShiftLeft, ShiftRight}
use Rattle.im_store.specs.declared.operators.Comparison.{Comparison}
use Rattle.im_store.specs.declared.undefined.Undefined.TheVariants.{MissingResult}
use Rattle.im_store.specs.Checks.{Fine, then_, unless}
use Rattle.im_store.specs.Numbers.{apply, compares}
use Rattle.im_store.specs.Objects.{Value, Number, Null, Pointer, Unset, Store, same_kind}
use Rattle.im_store.specs.Pointers.{moved_by, bytes_moved, distance, compare_places, compare_values}
use Rattle.im_typed.specs.Program as q
use Rattle.im_typed.specs.Typing.{IsInteger, IsIntegerShape, IsScalarShape, IsRightShape}
use Rattle.im_typed.specs.Sound.{IsValue}
use Rattle.im_typed.proofs.SoundExprs.{promoted-integer}
use Rattle.im_block.specs.Meaning as m
use Rattle.im_block.specs.Meaning.{condition}
use Rattle.im_lower_relation.proofs.Uses.{number-value}

-- operands that are of their kind need no conversion

pub converted-same : (kind : Kind) (v : Value) (z : ℤ) → v ≡ Number z → IsOfKind kind z → m.converted kind v ≡ Fine z
converted-same kind v z e h = ap (m.converted kind) e ∙ ap Fine (wrap-same kind z h)

-- the right operand, by what a shift's count may be
abbrev IsRightOf : BinaryOp → Kind → ℤ → Type 0
IsRightOf op kind y = m.right_of op kind y ≡ y

pub right-same : (op : BinaryOp) (kind : Kind) (y : ℤ) → IsOfKind kind y → m.right_of op kind y ≡ y
right-same ShiftLeft kind y h = refl
right-same ShiftRight kind y h = refl
right-same Add kind y h = wrap-same kind y h
right-same Subtract kind y h = wrap-same kind y h
right-same Multiply kind y h = wrap-same kind y h
right-same Divide kind y h = wrap-same kind y h
right-same Remainder kind y h = wrap-same kind y h
right-same BitAnd kind y h = wrap-same kind y h
right-same BitOr kind y h = wrap-same kind y h
right-same BitXor kind y h = wrap-same kind y h

pub computed-same : (op : BinaryOp) (kind : Kind) (v w : Value) (x y z : ℤ) → v ≡ Number x → w ≡ Number y → IsOfKind kind x → m.right_of op kind y ≡ y → apply op kind x y ≡ Fine z → m.as_number (m.computed op kind v w) ≡ Fine (Number z)
computed-same op kind v w x y z ev ew hx hy e =
    ap (λ r. m.as_number (then_ r (λ a. then_ (m.number_of w) (λ b. apply op kind a (m.right_of op kind b))))) (converted-same kind v x ev hx)
    ∙ ap (λ r. m.as_number (then_ (m.number_of r) (λ b. apply op kind x (m.right_of op kind b)))) ew
    ∙ ap (λ b. m.as_number (apply op kind x b)) hy ∙ ap m.as_number e

pub not-pointers : (kind : Kind) → IsInteger kind → same_kind kind Ptr ≡ false
not-pointers I8 h = refl
not-pointers U8 h = refl
not-pointers I16 h = refl
not-pointers U16 h = refl
not-pointers I32 h = refl
not-pointers U32 h = refl
not-pointers Ptr h = absurd h

pub if-false : {A : Type 0} (c : Bool) (r other : A) → c ≡ false → (if c then r else other) ≡ other
if-false true r other e = absurd (cc)
if-false false r other e = refl

pub compared-same : (store : Store) (op : Comparison) (kind : Kind) (v w : Value) (x y : ℤ) → IsInteger kind → v ≡ Number x → w ≡ Number y → IsOfKind kind x → IsOfKind kind y → m.as_truth (m.compared store op kind v w) ≡ Fine (Number (if compares op x y then pos 1 else pos 0))
compared-same store op kind v w x y i ev ew hx hy =
    ap m.as_truth (if-false (same_kind kind Ptr) _ (then_ (m.converted kind v) (λ a. then_ (m.converted kind w) (λ b. Fine (compares op a b)))) (not-pointers kind i)
    ∙ ap (λ r. then_ r (λ a. then_ (m.converted kind w) (λ b. Fine (compares op a b)))) (converted-same kind v x ev hx)
    ∙ ap (λ r. then_ r (λ b. Fine (compares op x b))) (converted-same kind w y ew hy))

-- negated, a value is 1 or 0
pub negated : (store : Store) (v : Value) (b : Bool) → condition store v ≡ Fine b → m.as_truth (m.negation store v) ≡ Fine (Number (if not b then pos 1 else pos 0))
negated store v b e = ap (λ r. m.as_truth (then_ r (λ x. Fine (not x)))) e

pub truth-condition : (store : Store) (b : Bool) → condition store (Number (if b then pos 1 else pos 0)) ≡ Fine b
unfolding word
truth-condition store true = refl
truth-condition store false = refl

pub integer-shape : (shape : Option q.Access) → IsIntegerShape shape → (kind : Kind) × (shape ≡ Some (q.Scalar kind)) × IsInteger kind
integer-shape None h = absurd h
integer-shape (Some (q.Scalar kind)) h = (kind, refl, h)
integer-shape (Some (q.Struct count cells)) h = absurd h

pub scalar-shape : (shape : Option q.Access) → IsScalarShape shape → (kind : Kind) × (shape ≡ Some (q.Scalar kind))
scalar-shape None h = absurd h
scalar-shape (Some (q.Scalar kind)) h = (kind, refl)
scalar-shape (Some (q.Struct count cells)) h = absurd h

-- a right operand's kind
pub right-kind : (op : BinaryOp) (kind : Kind) (shape : Option q.Access) → IsInteger kind → IsRightShape op kind shape → (other : Kind) × (shape ≡ Some (q.Scalar other)) × IsInteger other × ((y : ℤ) → IsOfKind other y → m.right_of op kind y ≡ y)
right-kind ShiftLeft kind shape i h = let s = integer-shape shape (promoted-integer shape h) in (s.0, s.1, s.2, λ y k. refl)
right-kind ShiftRight kind shape i h = let s = integer-shape shape (promoted-integer shape h) in (s.0, s.1, s.2, λ y k. refl)
right-kind op kind shape i h = (kind, h, i, λ y k. right-same op kind y k)

-- a cell takes a value of its kind as it is
pub stored-same : (begun : ℕ) (store : Store) (kind : Kind) (v : Value) → IsValue begun store kind v → m.stored kind v ≡ Fine v
stored-same begun store kind (Number z) h =
    ap (λ c. unless (not c) (Number (wrap kind z)) MissingResult) (not-pointers kind h.0) ∙ ap (λ x. Fine (Number x)) (wrap-same kind z h.1)
stored-same begun store kind Null h = ap (λ x. m.stored x Null) h
stored-same begun store kind (Pointer o offset) h = ap (λ x. m.stored x (Pointer o offset)) h.0
stored-same begun store kind Unset h = absurd h

-- 1 is of each kind of integers
pub one-of_kind : (kind : Kind) → IsInteger kind → IsOfKind kind (pos 1)
one-of_kind I8 h = record { low = omega (arith, ints); high = omega (arith, ints) }
one-of_kind U8 h = record { low = omega (arith, ints); high = omega (arith, ints) }
one-of_kind I16 h = record { low = omega (arith, ints); high = omega (arith, ints) }
one-of_kind U16 h = record { low = omega (arith, ints); high = omega (arith, ints) }
one-of_kind I32 h = record { low = omega (arith, ints); high = omega (arith, ints) }
one-of_kind U32 h = record { low = omega (arith, ints); high = omega (arith, ints) }
one-of_kind Ptr h = absurd h

-- pointers

pub moved-same : (blocks : Store) (size : ℕ) (back : Bool) (v w p at : Value) (z : ℤ) → v ≡ p → w ≡ Number z → moved_by blocks (bytes_moved size back z) p ≡ Fine at → m.moved blocks size back v w ≡ Fine at
moved-same blocks size back v w p at z ev ew e =
    ap (λ r. m.moved blocks size back r w) ev
    ∙ ap (λ r. then_ (m.number_of r) (λ i. moved_by blocks (bytes_moved size back i) p)) ew ∙ e

pub distance-same : (blocks : Store) (size : ℕ) (v w p q : Value) (z : ℤ) → v ≡ p → w ≡ q → m.pointer_of blocks p ≡ Fine p → m.pointer_of blocks q ≡ Fine q → distance size p q ≡ Fine z → m.as_number (m.distance_of blocks size v w) ≡ Fine (Number z)
distance-same blocks size v w p q z ev ew ep eq e =
    ap (λ r. m.as_number (m.distance_of blocks size r w)) ev ∙ ap (λ r. m.as_number (m.distance_of blocks size p r)) ew
    ∙ ap (λ r. m.as_number (then_ r (λ a. then_ (m.pointer_of blocks q) (λ b. distance size a b)))) ep
    ∙ ap (λ r. m.as_number (then_ r (λ b. distance size p b))) eq ∙ ap m.as_number e

places-compared : (begun : ℕ) (store : Store) (op : Comparison) (x y : Value) → IsValue begun store Ptr x → compare_values op x y ≡ compare_places op x y
places-compared begun store op (Number z) y h = absurd h.0
places-compared begun store op Null y h = refl
places-compared begun store op (Pointer o i) y h = refl
places-compared begun store op Unset y h = absurd h

compared-numbers : (begun : ℕ) (store blocks : Store) (op : Comparison) (kind : Kind) (v w vx vy : Value) (answer : Bool) → IsInteger kind → v ≡ vx → w ≡ vy → IsValue begun store kind vx → IsValue begun store kind vy → compare_values op vx vy ≡ Fine answer
    → m.as_truth (m.compared blocks op kind v w) ≡ Fine (Number (if answer then pos 1 else pos 0))
compared-numbers begun store blocks op kind v w vx vy answer i ev ew hx hy e =
    let x = number-value begun store kind vx i hx in
    let y = number-value begun store kind vy i hy in
    let same : compare_values op vx vy ≡ Fine (compares op x.0 y.0) = ap (λ r. compare_values op r vy) x.1 ∙ ap (compare_values op (Number x.0)) y.1 in
    let answers : compares op x.0 y.0 ≡ answer = cc in
    compared-same blocks op kind v w x.0 y.0 i (ev ∙ x.1) (ew ∙ y.1) x.2 y.2 ∙ ap (λ r. Fine (Number (if r then pos 1 else pos 0))) answers

-- two values of a kind are compared
pub compared-values : (begun : ℕ) (store blocks : Store) (op : Comparison) (kind : Kind) (v w vx vy : Value) (answer : Bool) → v ≡ vx → w ≡ vy → IsValue begun store kind vx → IsValue begun store kind vy
    → (kind ≡ Ptr → m.pointer_of blocks vx ≡ Fine vx) → (kind ≡ Ptr → m.pointer_of blocks vy ≡ Fine vy) → compare_values op vx vy ≡ Fine answer
    → m.as_truth (m.compared blocks op kind v w) ≡ Fine (Number (if answer then pos 1 else pos 0))
compared-values begun store blocks op Ptr v w vx vy answer ev ew hx hy px py e =
    ap (λ r. m.as_truth (m.compared blocks op Ptr r w)) ev ∙ ap (λ r. m.as_truth (m.compared blocks op Ptr vx r)) ew
    ∙ ap (λ r. m.as_truth (then_ r (λ a. then_ (m.pointer_of blocks vy) (λ b. compare_places op a b)))) (px refl)
    ∙ ap (λ r. m.as_truth (then_ r (λ b. compare_places op vx b))) (py refl) ∙ ap m.as_truth (sym (places-compared begun store op vx vy hx) ∙ e)
compared-values begun store blocks op kind v w vx vy answer ev ew hx hy px py e =
    compared-numbers begun store blocks op kind v w vx vy answer tt ev ew hx hy e
