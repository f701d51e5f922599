-- Assignments and steps.
use Rattle.std.proofs.Common.{◌≡◌, ◌&&◌, ◌||◌, ⊎_elim, Bool, true, false, refl, sym, ap, ◌∙◌, subst}
use Rattle.std.specs.Prelude.{Option, Some, None, not}
use Rattle.im_ctree.specs.declared.operator.AssignOp.{AssignOp}
use Rattle.im_ctree.specs.declared.operator.AssignOp.TheVariants as a
use Rattle.im_ctree.specs.declared.operator.StepOp.{StepOp}
use Rattle.im_ctree.specs.declared.operator.BinaryOp.{BinaryOp}
use Rattle.im_ctree.specs.declared.operator.BinaryOp.TheVariants as b
use Rattle.im_store.proofs.Same.{both-true}
use Rattle.im_ctype.specs.declared.integer.Integer.{Integer}
use Rattle.im_ctype.specs.Types.{CType, void, integer, pointer, array, unsized, struct, function, Structs, kind_of, is_integer, is_pointer}
use Rattle.im_typed.specs.Program.{Place, Func, Prog}
use Rattle.im_typed.specs.Typing.{IsPromoted, IsElement, IsRightShape, IsPromotedShape, shape_of, IsTyped}
use Rattle.im_rules.specs.Terms.{Value, Term, lvalue, value, operand_of, value_of}
use Rattle.im_rules.specs.TypeTests.{points_to_complete}
use Rattle.im_rules.specs.Rules.{Operand, value_type, allows, rule_23, rule_30_assign, rule_30_step}
use Rattle.im_rules.specs.Demands.{Meets, assigned_asks, assign_asks, step_asks}
use Rattle.im_rules.specs.Conversions.{promoted, integer_of, common, store_operator, computed_in, changed_by, element_size, operator_of, assigned_by, assigned, stepped}
use Rattle.im_rules_sound.specs.Sound.{gives, MovesWell, IsSoundValue, IsSoundPlace, IsSoundTerm}
use Rattle.im_rules_sound.proofs.Operations.{or-true, never, no-integer, add-first-points, subtract-points, type-seen, integer-kind, promoted-kind, common-kind, is-integer-shape, as-integer-sound, as-pointer-sound}
use Rattle.im_rules_sound.proofs.Terms.{reads, integer-seen}
use Rattle.im_rules_sound.proofs.Changes.{same-struct}

module _ (g : Prog) (f : Func) (known : Structs) where
  -- the right operand of a compound assignment
  record IsBy (op : BinaryOp) (i : Integer) (v : Value) : Type 0 where
    pub promoted : IsPromoted (kind_of (computed_in op (integer i) v.type))
    pub typed : IsTyped g f (changed_by op (integer i) v)
    pub right : IsRightShape (store_operator op) (kind_of (computed_in op (integer i) v.type)) (shape_of g (changed_by op (integer i) v))

  changes : (op : BinaryOp) (i : Integer) (v : Value) → IsSoundValue g f known v → is_integer v.type ≡ true → IsBy op i v
  changes b.ShiftLeft i v h e =
      let part = as-integer-sound g f known (promoted (integer_of v.type)) v h e in
      record { promoted = promoted-kind i; typed = part.typed; right = subst IsPromotedShape (sym part.shape) (promoted-kind (integer_of v.type)) }
  changes b.ShiftRight i v h e =
      let part = as-integer-sound g f known (promoted (integer_of v.type)) v h e in
      record { promoted = promoted-kind i; typed = part.typed; right = subst IsPromotedShape (sym part.shape) (promoted-kind (integer_of v.type)) }
  changes op i v h e =
      let part = as-integer-sound g f known (common (integer i) v.type) v h e in
      record { promoted = common-kind (integer i) v.type; typed = part.typed; right = part.shape }

  -- the right operand of a compound assignment is an integer
  right-integer : (op : BinaryOp) (x y : Term) → IsSoundTerm g f known y → rule_30_assign known op (operand_of x) (operand_of y) ≡ true → is_integer (value_of known y).type ≡ true
  right-integer op x y hy e =
      let vx = value_type (operand_of x) in
      let vy = value_type (operand_of y) in
      let both = both-true (allows known op (operand_of x) (operand_of y)) ((is_integer vx && is_integer vy) || (is_pointer vx && is_integer vy)) e in
      integer-seen g f known y hy
      (⊎_elim (λ h. (both-true (is_integer vx) (is_integer vy) h).1) (λ h. (both-true (is_pointer vx) (is_integer vy) h).1)
      (or-true (is_integer vx && is_integer vy) (is_pointer vx && is_integer vy) both.1))

  no-scalar : (p q : Bool) → ((false && p) || (false && q)) ≡ true → ⊥
  no-scalar p q e = absurd (cc)

  -- a pointer that is changed points to a complete type
  abbrev MovesBy : Operand → Operand → Option BinaryOp → Type 0
  MovesBy x y None = Unit {0}
  MovesBy x y (Some b) = allows known b x y ≡ true → is_pointer (value_type x) ≡ true → points_to_complete known (value_type x) ≡ true

  by-integers : (x y : Operand) → (is_integer (value_type x) && is_integer (value_type y)) ≡ true → is_pointer (value_type x) ≡ true → points_to_complete known (value_type x) ≡ true
  by-integers x y e p = never (is_integer (value_type x)) (both-true (is_integer (value_type x)) (is_integer (value_type y)) e).0 (no-integer (value_type x) p)

  moving : (x y : Operand) (op : AssignOp) → MovesBy x y (operator_of op)
  moving x y a.Plain = tt
  moving x y a.Multiply = by-integers x y
  moving x y a.Divide = by-integers x y
  moving x y a.Remainder = by-integers x y
  moving x y a.Add = add-first-points g f known (value_type x) (value_type y)
  moving x y a.Subtract = subtract-points g f known (value_type x) (value_type y)
  moving x y a.ShiftLeft = by-integers x y
  moving x y a.ShiftRight = by-integers x y
  moving x y a.BitAnd = by-integers x y
  moving x y a.BitXor = by-integers x y
  moving x y a.BitOr = by-integers x y

  abbrev Moves : Option BinaryOp → CType → Type 0
  Moves o t = (b : BinaryOp) → o ≡ Some b → is_pointer t ≡ true → IsElement (element_size known t)

  by-operator : (o : Option BinaryOp) (k : Bool) (t : CType) (p : Place) (y : Term) → IsSoundPlace g f known t p → IsSoundTerm g f known y → Moves o t → rule_23 known (operand_of (lvalue k t p)) ≡ true → (assigned_asks known o (lvalue k t p) y).holds ≡ true
      → IsSoundValue g f known (record { type = t; expr = assigned_by known o t p (value_of known y) })
  by-operator o k void p y h hy moves free e = absurd (let object = h.object in cc)
  by-operator o k (function r ps) p y h hy moves free e = absurd (let object = h.object in cc)
  by-operator o k (array t n) p y h hy moves free e = absurd (let none = (both-true (not k) _ free).1 in cc)
  by-operator o k (unsized t) p y h hy moves free e = absurd (let none = (both-true (not k) _ free).1 in cc)
  by-operator None k (integer i) p y h hy moves free e =
      let vy = value_type (operand_of y) in
      let int : is_integer vy ≡ true = ⊎_elim (λ z. z) (λ z. absurd (cc)) (or-true (is_integer vy) false e) in
      let part = as-integer-sound g f known i (value_of known y) (reads g f known y hy) (integer-seen g f known y hy int) in
      record { plain = refl; typed = (tt, h.typed, part.typed, part.shape); shape = refl }
  by-operator None k (pointer d t) p y h hy moves free e =
      let part = as-pointer-sound g f known (value_of known y) (reads g f known y hy) in
      record { plain = refl; typed = (tt, h.typed, part.typed, part.shape); shape = refl }
  by-operator None k (struct n) p y h hy moves free e =
      let v = value_of known y in
      let sy = reads g f known y hy in
      let same : v.type ≡ struct n = sym (type-seen known y sy.plain) ∙ same-struct n (value_type (operand_of y)) e in
      record { plain = refl; typed = (h.sized.struct refl, h.typed, sy.typed, sy.shape ∙ ap (gives known) same); shape = refl }
  by-operator (Some op) k (integer i) p y h hy moves free e =
      let v = value_of known y in
      let part = changes op i v (reads g f known y hy) (right-integer op (lvalue k (integer i) p) y hy e) in
      record { plain = refl; typed = (h.typed, part.typed, (integer-kind i, part.promoted, part.right)); shape = refl }
  by-operator (Some op) k (pointer d t) p y h hy moves free e =
      let v = value_of known y in
      let sy = reads g f known y hy in
      record { plain = refl; typed = (h.typed, sy.typed, (moves op refl refl, is-integer-shape g f known v sy (right-integer op (lvalue k (pointer d t) p) y hy e))); shape = refl }
  by-operator (Some op) k (struct n) p y h hy moves free e =
      absurd (let none = (both-true (allows known op (operand_of (lvalue k (struct n) p)) (operand_of y)) _ e).1 in cc)

  pub assigns : (op : AssignOp) (x y : Term) → IsSoundTerm g f known x → IsSoundTerm g f known y → MovesWell known (value_of known x).type → Meets (assign_asks known op x y) → IsSoundValue g f known (assigned known op x (value_of known y))
  assigns op (value v) y h hy moves e = absurd (let none = e.0 in cc)
  assigns op (lvalue k t p) y h hy moves e = by-operator (operator_of op) k t p y h hy (λ b is pt. element t b is pt moves e.1.1.0) e.1.0 e.1.1.0
    where
      element : (u : CType) (b : BinaryOp) → operator_of op ≡ Some b → is_pointer u ≡ true → MovesWell known (value_of known (lvalue k u p)).type → (assigned_asks known (operator_of op) (lvalue k u p) y).holds ≡ true → IsElement (element_size known u)
      element (pointer d u) b is pt m r =
          let rule : rule_30_assign known b (operand_of (lvalue k (pointer d u) p)) (operand_of y) ≡ true = subst (λ o. (assigned_asks known o (lvalue k (pointer d u) p) y).holds ≡ true) is r in
          let asked = both-true (allows known b (operand_of (lvalue k (pointer d u) p)) (operand_of y)) _ rule in
          let points : MovesBy (operand_of (lvalue k (pointer d u) p)) (operand_of y) (Some b) = subst (MovesBy (operand_of (lvalue k (pointer d u) p)) (operand_of y)) is (moving (operand_of (lvalue k (pointer d u) p)) (operand_of y) op) in
          m (points asked.0 refl)
      element void b is pt m r = absurd (cc)
      element (integer i) b is pt m r = absurd (cc)
      element (array v n) b is pt m r = absurd (cc)
      element (unsized v) b is pt m r = absurd (cc)
      element (struct n) b is pt m r = absurd (cc)
      element (function v ps) b is pt m r = absurd (cc)

  by-step : (op : StepOp) (old k : Bool) (t : CType) (p : Place) → IsSoundPlace g f known t p → MovesWell known (value_of known (lvalue k t p)).type → rule_23 known (operand_of (lvalue k t p)) ≡ true → rule_30_step known (operand_of (lvalue k t p)) ≡ true
      → IsSoundValue g f known (stepped known op old (lvalue k t p))
  by-step op old k (integer i) p h moves free e = record { plain = refl; typed = (h.typed, (integer-kind i, promoted-kind i)); shape = refl }
  by-step op old k (pointer d t) p h moves free e = record { plain = refl; typed = (h.typed, moves e); shape = refl }
  by-step op old k void p h moves free e = absurd (cc)
  by-step op old k (array t n) p h moves free e = absurd (let none = (both-true (not k) _ free).1 in cc)
  by-step op old k (unsized t) p h moves free e = absurd (let none = (both-true (not k) _ free).1 in cc)
  by-step op old k (struct n) p h moves free e = absurd (cc)
  by-step op old k (function r ps) p h moves free e = absurd (cc)

  pub steps : (op : StepOp) (old : Bool) (x : Term) → IsSoundTerm g f known x → MovesWell known (value_of known x).type → Meets (step_asks known x) → IsSoundValue g f known (stepped known op old x)
  steps op old (value v) h moves e = absurd (let none = e.0 in cc)
  steps op old (lvalue k t p) h moves e = by-step op old k t p h moves e.1.0 e.1.1.0
