-- Constants of well-typed expressions: a number is of its kind, an address is a place in a static or at its end.
use Rattle.std.proofs.Common.{◌≡◌, ℕ, zero, suc, ◌<◌, ◌≤◌, ◌&&◌, List, [], ◌∷◌, length, Bool, true, false, refl, sym, ap, ◌∙◌, subst, arith}
use Rattle.std.specs.Prelude.{Option, Some, None, ℤ, pos, negsuc, ◌+ℤ◌, int_le, slice_get, if◌then◌else◌}
use Rattle.std.specs.Ordering.{int_eq}
use Rattle.std.proofs.lemmas.Int.{ints}
use Rattle.im_num.specs.declared.kind.Kind.{Kind}
use Rattle.im_num.specs.declared.kind.Kind.TheVariants.{I32, Ptr}
use Rattle.im_num.specs.Kinds.{wrap, IsOfKind}
use Rattle.im_num.proofs.Wrapping.{wrap-of_kind}
use Rattle.im_store.specs.declared.operators.BinaryOp.{BinaryOp}
use Rattle.im_store.specs.declared.operators.BinaryOp.TheVariants as s
use Rattle.im_store.specs.Checks.{Checked, Fine, Bad}
use Rattle.im_store.specs.Numbers.{apply, apply_one, compares}
use Rattle.im_store.specs.Objects.{Value, Number, Null, Pointer, static}
use Rattle.im_store.specs.Statics.{StaticObject}
use Rattle.im_store.proofs.Same.{both-true}
use Rattle.im_store.proofs.OfKind.{IsOperand, apply-of_kind, apply_one-of_kind}
use Rattle.im_typed.specs.Program.{Scalar, Place, Static, Local, Target, Member, Expr, Constant, NullPointer, Read, Address, Convert, Unary, Binary, Move, MoveBy, Distance, Compare, Not, And, Or, Choose, Comma, Discard, Assign, Update, Increment, Part, Call, Serve, no_argument, an_argument, Func, Prog}
use Rattle.im_typed.specs.Typing.{IsInteger, IsRightShape, shape_of, IsTypedPlace, IsTyped, HasPlace, IsFirstValue}
use Rattle.im_rules.specs.Rules.{is_within}
use Rattle.im_rules.specs.Constants.{is_constant, truth, is_true, defined, on_one, on_both, as_truth, and_then, or_else, picked, evaluated, constant_value}
use Rattle.im_rules.specs.StaticValues.{Spot, natural, kept, moved_spot, bytes_moved, spot_of, address_of, pointer_to, number_or, static_value}

-- parts of a value that is there

record HasOne (h : ℤ → ℤ) (m : Option ℤ) (z : ℤ) : Type 0 where
  pub part : ℤ
  pub is : m ≡ Some part
  pub value : h part ≡ z

one-there : (h : ℤ → ℤ) (m : Option ℤ) (z : ℤ) → on_one h m ≡ Some z → HasOne h m z
one-there h None z e = absurd (cc)
one-there h (Some a) z e = record { part = a; is = refl; value = cc }

record HasBoth (h : ℤ → ℤ → Option ℤ) (m n : Option ℤ) (z : ℤ) : Type 0 where
  pub left : ℤ
  pub right : ℤ
  pub first : m ≡ Some left
  pub second : n ≡ Some right
  pub value : h left right ≡ Some z

both-there : (h : ℤ → ℤ → Option ℤ) (m n : Option ℤ) (z : ℤ) → on_both h m n ≡ Some z → HasBoth h m n z
both-there h None n z e = absurd (cc)
both-there h (Some a) None z e = absurd (cc)
both-there h (Some a) (Some b) z e = record { left = a; right = b; first = refl; second = refl; value = e }

defined-fine : (c : Checked ℤ) (z : ℤ) → defined c ≡ Some z → c ≡ Fine z
defined-fine (Fine y) z e = let same : y ≡ z = cc in ap Fine same
defined-fine (Bad why) z e = absurd (cc)

truth-int : (b : Bool) → IsOfKind I32 (truth b)
truth-int true = record { low = omega (arith, ints); high = omega (arith, ints) }
truth-int false = record { low = omega (arith, ints); high = omega (arith, ints) }

as-truth-int : (m : Option ℤ) (z : ℤ) → as_truth m ≡ Some z → IsOfKind I32 z
as-truth-int m z e = let one = one-there (λ y. truth (is_true y)) m z e in subst (IsOfKind I32) one.value (truth-int (is_true one.part))

and-int : (m n : Option ℤ) (z : ℤ) → and_then m n ≡ Some z → IsOfKind I32 z
and-int None n z e = absurd (cc)
and-int (Some a) n z e = by-test (is_true a) e
  where
    by-test : (b : Bool) → (if b then as_truth n else Some (pos 0)) ≡ Some z → IsOfKind I32 z
    by-test true e = as-truth-int n z e
    by-test false e = let same : pos 0 ≡ z = cc in subst (IsOfKind I32) same (truth-int false)

or-int : (m n : Option ℤ) (z : ℤ) → or_else m n ≡ Some z → IsOfKind I32 z
or-int None n z e = absurd (cc)
or-int (Some a) n z e = by-test (is_true a) e
  where
    by-test : (b : Bool) → (if b then Some (pos 1) else as_truth n) ≡ Some z → IsOfKind I32 z
    by-test true e = let same : pos 1 ≡ z = cc in subst (IsOfKind I32) same (truth-int true)
    by-test false e = as-truth-int n z e

same-kind : (k l : Kind) → Some (Scalar k) ≡ Some (Scalar l) → k ≡ l
same-kind k l e = cc

module _ (g : Prog) (f : Func) where
  -- a constant expression's value
  pub record IsNumber (e : Expr) (z : ℤ) : Type 0 where
    pub kind : Kind
    pub shape : shape_of g e ≡ Some (Scalar kind)
    pub integer : IsInteger kind
    pub value : IsOfKind kind z

  of-kind : (e : Expr) (z : ℤ) (k : Kind) → IsNumber e z → shape_of g e ≡ Some (Scalar k) → IsOfKind k z
  of-kind e z k h is = subst (λ l. IsOfKind l z) (same-kind h.kind k (sym h.shape ∙ is)) h.value

  operand-good : (op : BinaryOp) (k : Kind) (e : Expr) (z : ℤ) → IsNumber e z → IsRightShape op k (shape_of g e) → IsOperand op k z
  operand-good s.ShiftLeft k e z h r = tt
  operand-good s.ShiftRight k e z h r = tt
  operand-good s.Add k e z h r = of-kind e z k h r
  operand-good s.Subtract k e z h r = of-kind e z k h r
  operand-good s.Multiply k e z h r = of-kind e z k h r
  operand-good s.Divide k e z h r = of-kind e z k h r
  operand-good s.Remainder k e z h r = of-kind e z k h r
  operand-good s.BitAnd k e z h r = of-kind e z k h r
  operand-good s.BitOr k e z h r = of-kind e z k h r
  operand-good s.BitXor k e z h r = of-kind e z k h r

  int-number : (e : Expr) (z : ℤ) → shape_of g e ≡ Some (Scalar I32) → IsOfKind I32 z → IsNumber e z
  int-number e z is h = record { kind = I32; shape = is; integer = tt; value = h }

  pub number-good : (e : Expr) → IsTyped g f e → is_constant e ≡ true → (z : ℤ) → evaluated e ≡ Some z → IsNumber e z
  number-good (Constant k v) h c z e = let same : v ≡ z = cc in record { kind = k; shape = refl; integer = h.0; value = subst (IsOfKind k) same h.1 }
  number-good (Convert k a) h c z e =
      let one = one-there (wrap k) (evaluated a) z e in
      record { kind = k; shape = refl; integer = h.0; value = subst (IsOfKind k) one.value (wrap-of_kind k one.part) }
  number-good (Unary op k a) h c z e =
      let one = one-there (apply_one op k) (evaluated a) z e in
      record { kind = k; shape = refl; integer = h.0.0; value = subst (IsOfKind k) one.value (apply_one-of_kind op k one.part) }
  number-good (Binary op k a b) h c z e =
      let constants = both-true (is_constant a) (is_constant b) c in
      let both = both-there (λ x y. defined (apply op k x y)) (evaluated a) (evaluated b) z e in
      let left = number-good a h.1 constants.0 both.left both.first in
      let right = number-good b h.2 constants.1 both.right both.second in
      record {
        kind = k;
        shape = refl;
        integer = h.0.0;
        value = apply-of_kind op k both.left both.right z (of-kind a both.left k left h.3) (operand-good op k b both.right right h.4) (defined-fine (apply op k both.left both.right) z both.value);
      }
  number-good (Compare op k a b) h c z e =
      let both = both-there (λ x y. Some (truth (compares op x y))) (evaluated a) (evaluated b) z e in
      let same : truth (compares op both.left both.right) ≡ z = let is = both.value in cc in
      int-number (Compare op k a b) z refl (subst (IsOfKind I32) same (truth-int (compares op both.left both.right)))
  number-good (Not a) h c z e =
      let one = one-there (λ y. truth (int_eq y (pos 0))) (evaluated a) z e in
      int-number (Not a) z refl (subst (IsOfKind I32) one.value (truth-int (int_eq one.part (pos 0))))
  number-good (And a b) h c z e = int-number (And a b) z refl (and-int (evaluated a) (evaluated b) z e)
  number-good (Or a b) h c z e = int-number (Or a b) z refl (or-int (evaluated a) (evaluated b) z e)
  number-good (Choose d a b) h c z e =
      let constants = both-true (is_constant d) (is_constant a && is_constant b) c in
      let arms = both-true (is_constant a) (is_constant b) constants.1 in
      by-test (evaluated d) e (λ k. number-good a h.1 arms.0 z k) (λ k. number-good b h.2 arms.1 z k)
    where
      later : IsNumber b z → IsNumber (Choose d a b) z
      later q = record { kind = q.kind; shape = h.4 ∙ q.shape; integer = q.integer; value = q.value }

      by-arm : (t : Bool) → (if t then evaluated a else evaluated b) ≡ Some z → (evaluated a ≡ Some z → IsNumber a z) → (evaluated b ≡ Some z → IsNumber b z) → IsNumber (Choose d a b) z
      by-arm true e p q = let one = p e in record { kind = one.kind; shape = one.shape; integer = one.integer; value = one.value }
      by-arm false e p q = later (q e)

      by-test : (m : Option ℤ) → picked m (evaluated a) (evaluated b) ≡ Some z → (evaluated a ≡ Some z → IsNumber a z) → (evaluated b ≡ Some z → IsNumber b z) → IsNumber (Choose d a b) z
      by-test None e p q = absurd (cc)
      by-test (Some y) e p q = by-arm (is_true y) e p q
  number-good (NullPointer kind) h c z e = absurd (cc)
  number-good (Read x p) h c z e = absurd (cc)
  number-good (Address p) h c z e = absurd (cc)
  number-good (Move n k a b) h c z e = absurd (cc)
  number-good (MoveBy n a b) h c z e = absurd (cc)
  number-good (Distance n a b) h c z e = absurd (cc)
  number-good (Comma a b) h c z e = absurd (cc)
  number-good (Discard a) h c z e = absurd (cc)
  number-good (Assign x p a) h c z e = absurd (cc)
  number-good (Update p k a) h c z e = absurd (cc)
  number-good (Increment p k o) h c z e = absurd (cc)
  number-good (Part n x a) h c z e = absurd (cc)
  number-good (Call n es) h c z e = absurd (cc)
  number-good (Serve service no_argument) h c z e = absurd (cc)
  number-good (Serve service (an_argument a)) h c z e = absurd (cc)

  -- addresses, where each static is as large as it seems

  module _ (size : ℕ → ℕ) (fits : (n : ℕ) (o : StaticObject) → slice_get g.statics n ≡ Some o → size n ≤ o.size) where
    abbrev IsSpot : Spot → Type 0
    IsSpot p = HasPlace (slice_get g.statics p.object) p.offset

    static-there : (statics : List StaticObject) (n : ℕ) → n < length statics → HasPlace (slice_get statics n) 0
    static-there [] n lt = absurd (omega (arith, lt))
    static-there (o ∷ os) zero lt = omega arith
    static-there (o ∷ os) (suc n) lt = static-there os n (omega (arith, lt))

    natural-within : (n : ℕ) (z : ℤ) → is_within n z ≡ true → natural z ≤ n
    natural-within n (pos m) e =
        let both = both-true (int_le (pos 0) (pos m)) (int_le (pos m) (pos n)) e in
        grind (arith, ints, both.1)
    natural-within n (negsuc m) e = omega arith

    kept-good : (n old : ℕ) (z : ℤ) (p : Spot) → HasPlace (slice_get g.statics n) old → kept size n z ≡ Some p → IsSpot p
    kept-good n old z p there e = by-test (is_within (size n) z) refl e
      where
        inside : (o : Option StaticObject) → slice_get g.statics n ≡ o → HasPlace o old → natural z ≤ size n → HasPlace o (natural z)
        inside None is h le = h
        inside (Some o) is h le = let k = fits n o is in omega (arith, k, le)

        by-test : (b : Bool) → is_within (size n) z ≡ b → (if b then Some (record { object = n; offset = natural z }) else None) ≡ Some p → IsSpot p
        by-test true w e =
            let same : record { object = n; offset = natural z } ≡ p = cc in
            subst IsSpot same (inside (slice_get g.statics n) refl there (natural-within (size n) z w))
        by-test false w e = absurd (cc)

    moved-good : (q : Option Spot) (z : Option ℤ) (p : Spot) → ((r : Spot) → q ≡ Some r → IsSpot r) → moved_spot size q z ≡ Some p → IsSpot p
    moved-good None z p h e = absurd (cc)
    moved-good (Some r) None p h e = absurd (cc)
    moved-good (Some r) (Some z) p h e = kept-good r.object r.offset (pos r.offset +ℤ z) p (h r refl) e

    record IsAddress (e : Expr) (p : Spot) : Type 0 where
      pub shape : shape_of g e ≡ Some (Scalar Ptr)
      pub spot : IsSpot p

    mutual
      spot-good : (q : Place) → IsTypedPlace g f q → (p : Spot) → spot_of size q ≡ Some p → IsSpot p
      spot-good (Static n) h p e =
          let same : record { object = n; offset = 0 } ≡ p = cc in
          subst IsSpot same (static-there g.statics n h)
      spot-good (Local n) h p e = absurd (cc)
      spot-good (Target e) h p k = (address-good e h.0 p k).spot
      spot-good (Member q d) h p e = moved-good (spot_of size q) (Some (pos d)) p (λ r is. spot-good q h.0 r is) e

      address-good : (e : Expr) → IsTyped g f e → (p : Spot) → address_of size e ≡ Some p → IsAddress e p
      address-good (Address q) h p e = record { shape = refl; spot = spot-good q h p e }
      address-good (Move n k a b) h p e = record { shape = refl; spot = moved-good (address_of size a) (bytes_moved n k (constant_value b)) p (λ r is. (address-good a h.1 r is).spot) e }
      address-good (MoveBy n a b) h p e = record { shape = refl; spot = moved-good (address_of size b) (bytes_moved n false (constant_value a)) p (λ r is. (address-good b h.2 r is).spot) e }
      address-good (Constant k v) h p e = absurd (cc)
      address-good (NullPointer kind) h p e = absurd (cc)
      address-good (Read x q) h p e = absurd (cc)
      address-good (Convert k a) h p e = absurd (cc)
      address-good (Unary op k a) h p e = absurd (cc)
      address-good (Binary op k a b) h p e = absurd (cc)
      address-good (Distance n a b) h p e = absurd (cc)
      address-good (Compare op k a b) h p e = absurd (cc)
      address-good (Not a) h p e = absurd (cc)
      address-good (And a b) h p e = absurd (cc)
      address-good (Or a b) h p e = absurd (cc)
      address-good (Choose d a b) h p e = absurd (cc)
      address-good (Comma a b) h p e = absurd (cc)
      address-good (Discard a) h p e = absurd (cc)
      address-good (Assign x q a) h p e = absurd (cc)
      address-good (Update q k a) h p e = absurd (cc)
      address-good (Increment q k o) h p e = absurd (cc)
      address-good (Part n x a) h p e = absurd (cc)
      address-good (Call n es) h p e = absurd (cc)
      address-good (Serve service no_argument) h p e = absurd (cc)
      address-good (Serve service (an_argument a)) h p e = absurd (cc)

    -- the value of a static's initialiser
    pub record IsStaticValue (e : Expr) (v : Value) : Type 0 where
      pub kind : Kind
      pub shape : shape_of g e ≡ Some (Scalar kind)
      pub first : IsFirstValue g.statics kind v

    value-good : (e : Expr) → IsTyped g f e → (v : Value) → number_or (constant_value e) (pointer_to (address_of size e)) ≡ Some v → IsStaticValue e v
    value-good e h v k = by-constant (constant_value e) refl k
      where
        by-address : (q : Option Spot) → address_of size e ≡ q → pointer_to q ≡ Some v → IsStaticValue e v
        by-address None is k = absurd (cc)
        by-address (Some p) is k =
            let good = address-good e h p is in
            let same : Pointer (static p.object) p.offset ≡ v = cc in
            record { kind = Ptr; shape = good.shape; first = subst (IsFirstValue g.statics Ptr) same (refl, refl, refl, good.spot) }

        number : (z : ℤ) (b : Bool) → is_constant e ≡ b → (if b then evaluated e else None) ≡ Some z → IsNumber e z
        number z true c is = number-good e h c z is
        number z false c is = absurd (cc)

        by-constant : (m : Option ℤ) → constant_value e ≡ m → number_or m (pointer_to (address_of size e)) ≡ Some v → IsStaticValue e v
        by-constant (Some z) is k =
            let good = number z (is_constant e) refl is in
            let same : Number z ≡ v = cc in
            record { kind = good.kind; shape = good.shape; first = subst (IsFirstValue g.statics good.kind) same (good.integer, good.value) }
        by-constant None is k = by-address (address_of size e) refl k

    pub static-good : (e : Expr) → IsTyped g f e → (v : Value) → static_value size e ≡ Some v → IsStaticValue e v
    static-good (NullPointer kind) h v k =
        let same : Null ≡ v = cc in
        record { kind = Ptr; shape = ap (λ q. Some (Scalar q)) h; first = subst (IsFirstValue g.statics Ptr) same refl }
    static-good (Constant k z) h v e = value-good (Constant k z) h v e
    static-good (Read x p) h v e = value-good (Read x p) h v e
    static-good (Address p) h v e = value-good (Address p) h v e
    static-good (Convert k a) h v e = value-good (Convert k a) h v e
    static-good (Unary op k a) h v e = value-good (Unary op k a) h v e
    static-good (Binary op k a b) h v e = value-good (Binary op k a b) h v e
    static-good (Move n d a b) h v e = value-good (Move n d a b) h v e
    static-good (MoveBy n a b) h v e = value-good (MoveBy n a b) h v e
    static-good (Distance n a b) h v e = value-good (Distance n a b) h v e
    static-good (Compare op k a b) h v e = value-good (Compare op k a b) h v e
    static-good (Not a) h v e = value-good (Not a) h v e
    static-good (And a b) h v e = value-good (And a b) h v e
    static-good (Or a b) h v e = value-good (Or a b) h v e
    static-good (Choose d a b) h v e = value-good (Choose d a b) h v e
    static-good (Comma a b) h v e = value-good (Comma a b) h v e
    static-good (Discard a) h v e = value-good (Discard a) h v e
    static-good (Assign x p a) h v e = value-good (Assign x p a) h v e
    static-good (Update p k a) h v e = value-good (Update p k a) h v e
    static-good (Increment p k o) h v e = value-good (Increment p k o) h v e
    static-good (Part n x a) h v e = value-good (Part n x a) h v e
    static-good (Call n es) h v e = value-good (Call n es) h v e
    static-good (Serve service (an_argument a)) h v e = value-good (Serve service (an_argument a)) h v e
    static-good (Serve service no_argument) h v e = value-good (Serve service no_argument) h v e
