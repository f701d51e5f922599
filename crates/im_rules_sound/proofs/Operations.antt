-- Operators on well-typed values.
use Rattle.std.proofs.Common.{◌≡◌, ◌&&◌, ◌||◌, ◌⊎◌, inl, inr, ⊎_elim, Bool, true, false, refl, sym, ap, ◌∙◌, subst, arith}
use Rattle.std.specs.Prelude.{Option, Some, nat_le, nat_lt, if◌then◌else◌}
use Rattle.im_num.specs.declared.kind.Kind.{Kind}
use Rattle.im_num.specs.declared.kind.Kind.TheVariants.{I8, U8, I16, U16, I32, U32, Ptr}
use Rattle.im_ctree.specs.declared.operator.BinaryOp.{BinaryOp}
use Rattle.im_ctree.specs.declared.operator.BinaryOp.TheVariants as b
use Rattle.im_store.specs.declared.operators.BinaryOp as store_op
use Rattle.im_store.specs.declared.operators.BinaryOp.TheVariants as s
use Rattle.im_store.specs.declared.operators.Comparison.{Comparison}
use Rattle.im_store.specs.declared.operators.Comparison.TheVariants as c
use Rattle.im_store.specs.Objects.{same_kind}
use Rattle.im_store.proofs.Same.{same_kind-is, both-true}
use Rattle.im_ctype.specs.declared.integer.Integer.{Integer}
use Rattle.im_ctype.specs.declared.integer.Integer.TheVariants.{Char, SignedChar, UnsignedChar, Short, UnsignedShort, Int, UnsignedInt, Long, UnsignedLong}
use Rattle.im_ctype.specs.Types.{CType, void, integer, pointer, array, unsized, struct, function, Structs, kind_of, traits, same_bool, is_integer, is_pointer, is_array, is_scalar, are_like_pointers}
use Rattle.im_typed.specs.Program.{Access, Scalar, Func, Prog, Expr, Convert, NullPointer, Move, MoveBy, Distance, Compare}
use Rattle.im_typed.specs.Typing.{IsInteger, IsPromoted, IsCompared, IsIntegerShape, IsPromotedShape, IsScalarShape, IsRightShape, shape_of, IsTyped}
use Rattle.im_rules.specs.TypeTests.{decayed, points_to_complete}
use Rattle.im_rules.specs.Terms.{Value, Term, lvalue, value, kind_in, operand_of, value_of}
use Rattle.im_rules.specs.Rules.{value_type, allows}
use Rattle.im_rules.specs.Conversions.{as_integer, as_pointer, has_all_of, promoted, to_unsigned, mixed, usual, integer_of, common, arithmetic, shifted, element_size, moved, sum, difference, comparison, operation, int_value}
use Rattle.im_rules_sound.specs.Sound.{gives, IsSoundValue, MovesWell}

-- tests

pub or-true : (x y : Bool) → (x || y) ≡ true → (x ≡ true) ⊎ (y ≡ true)
or-true true y e = inl refl
or-true false y e = inr e

pub never : (x : Bool) {P : Type 0} → x ≡ true → x ≡ false → P
never x e h = absurd (cc)

pub by-test : {P : Type 0} (x : Bool) → (x ≡ true → P) → (x ≡ false → P) → P
by-test true h k = h refl
by-test false h k = k refl

pub or-false : (x y : Bool) → (x || y) ≡ false → (x ≡ false) × (y ≡ false)
or-false true y e = absurd (cc)
or-false false y e = (refl, e)

-- types

decayed-same : (k : Bool) (t : CType) → is_array t ≡ false → decayed k t ≡ t
decayed-same k void h = refl
decayed-same k (integer i) h = refl
decayed-same k (pointer d t) h = refl
decayed-same k (array t n) h = absurd (cc)
decayed-same k (unsized t) h = absurd (cc)
decayed-same k (struct n) h = refl
decayed-same k (function r ps) h = refl

-- the type of a value is the one that the rules see
pub type-seen : (known : Structs) (x : Term) → is_array (value_of known x).type ≡ false → value_type (operand_of x) ≡ (value_of known x).type
type-seen known (lvalue k void p) h = refl
type-seen known (lvalue k (integer i) p) h = refl
type-seen known (lvalue k (pointer d t) p) h = refl
type-seen known (lvalue k (array t n) p) h = refl
type-seen known (lvalue k (unsized t) p) h = refl
type-seen known (lvalue k (struct n) p) h = refl
type-seen known (lvalue k (function r ps) p) h = refl
type-seen known (value v) h = decayed-same false v.type h

integer-type : (t : CType) → is_integer t ≡ true → (i : Integer) × (t ≡ integer i)
integer-type (integer i) h = (i, refl)
integer-type void h = absurd (cc)
integer-type (pointer d t) h = absurd (cc)
integer-type (array t n) h = absurd (cc)
integer-type (unsized t) h = absurd (cc)
integer-type (struct n) h = absurd (cc)
integer-type (function r ps) h = absurd (cc)

pub pointer-gives : (known : Structs) (t : CType) → is_pointer t ≡ true → gives known t ≡ Some (Scalar Ptr)
pointer-gives known (pointer d t) h = refl
pointer-gives known (integer i) h = absurd (cc)
pointer-gives known void h = absurd (cc)
pointer-gives known (array t n) h = absurd (cc)
pointer-gives known (unsized t) h = absurd (cc)
pointer-gives known (struct n) h = absurd (cc)
pointer-gives known (function r ps) h = absurd (cc)

pub no-integer : (t : CType) → is_pointer t ≡ true → is_integer t ≡ false
no-integer (pointer d t) h = refl
no-integer (integer i) h = absurd (cc)
no-integer void h = refl
no-integer (array t n) h = refl
no-integer (unsized t) h = refl
no-integer (struct n) h = refl
no-integer (function r ps) h = refl

pub complete-pointer : (known : Structs) (t : CType) → points_to_complete known t ≡ true → is_pointer t ≡ true
complete-pointer known (pointer d t) h = refl
complete-pointer known (integer i) h = absurd (cc)
complete-pointer known void h = absurd (cc)
complete-pointer known (array t n) h = absurd (cc)
complete-pointer known (unsized t) h = absurd (cc)
complete-pointer known (struct n) h = absurd (cc)
complete-pointer known (function r ps) h = absurd (cc)

like-pointers : (t u : CType) → are_like_pointers t u ≡ true → (is_pointer t ≡ true) × (is_pointer u ≡ true)
like-pointers (pointer d t) (pointer e u) h = (refl, refl)
like-pointers _ _ h = absurd (cc)

-- kinds

pub integer-kind : (i : Integer) → IsInteger (kind_of i)
integer-kind Char = tt
integer-kind SignedChar = tt
integer-kind UnsignedChar = tt
integer-kind Short = tt
integer-kind UnsignedShort = tt
integer-kind Int = tt
integer-kind UnsignedInt = tt
integer-kind Long = tt
integer-kind UnsignedLong = tt

int-promoted : IsPromoted I32
int-promoted = (tt, omega arith)

unsigned-promoted : IsPromoted U32
unsigned-promoted = (tt, omega arith)

pub promoted-kind : (i : Integer) → IsPromoted (kind_of (promoted i))
promoted-kind Char = int-promoted
promoted-kind SignedChar = int-promoted
promoted-kind UnsignedChar = int-promoted
promoted-kind Short = int-promoted
promoted-kind UnsignedShort = int-promoted
promoted-kind Int = int-promoted
promoted-kind UnsignedInt = unsigned-promoted
promoted-kind Long = int-promoted
promoted-kind UnsignedLong = unsigned-promoted

unsigned-kind : (i : Integer) → IsPromoted (kind_of i) → IsPromoted (kind_of (to_unsigned i))
unsigned-kind Char h = h
unsigned-kind SignedChar h = h
unsigned-kind UnsignedChar h = h
unsigned-kind Short h = h
unsigned-kind UnsignedShort h = h
unsigned-kind Int h = h
unsigned-kind UnsignedInt h = h
unsigned-kind Long h = h
unsigned-kind UnsignedLong h = h

either-kind : (b : Bool) (i j : Integer) → IsPromoted (kind_of i) → IsPromoted (kind_of j) → IsPromoted (kind_of (if b then i else j))
either-kind true i j h k = h
either-kind false i j h k = k

mixed-kind : (i j : Integer) → IsPromoted (kind_of i) → IsPromoted (kind_of j) → IsPromoted (kind_of (mixed i j))
mixed-kind i j h k =
    either-kind (nat_le (traits i).rank (traits j).rank) j (if has_all_of (traits i) (traits j) then i else to_unsigned i) k
    (either-kind (has_all_of (traits i) (traits j)) i (to_unsigned i) h (unsigned-kind i h))

usual-kind : (i j : Integer) → IsPromoted (kind_of i) → IsPromoted (kind_of j) → IsPromoted (kind_of (usual i j))
usual-kind i j h k =
    either-kind (same_bool (traits i).is_signed (traits j).is_signed)
    (if nat_lt (traits i).rank (traits j).rank then j else i) (if (traits i).is_signed then mixed i j else mixed j i)
    (either-kind (nat_lt (traits i).rank (traits j).rank) j i k h)
    (either-kind (traits i).is_signed (mixed i j) (mixed j i) (mixed-kind i j h k) (mixed-kind j i k h))

pub common-kind : (t u : CType) → IsPromoted (kind_of (common t u))
common-kind t u =
    usual-kind (promoted (integer_of t)) (promoted (integer_of u)) (promoted-kind (integer_of t)) (promoted-kind (integer_of u))

compared-kind : (kind : Kind) → IsPromoted kind → IsCompared kind
compared-kind I8 h = h
compared-kind U8 h = h
compared-kind I16 h = h
compared-kind U16 h = h
compared-kind I32 h = h
compared-kind U32 h = h
compared-kind Ptr h = tt

module _ (g : Prog) (f : Func) (known : Structs) where
  abbrev Sound : Value → Type 0
  Sound v = IsSoundValue g f known v

  pub integer-shape : (v : Value) → Sound v → is_integer v.type ≡ true → shape_of g v.expr ≡ Some (Scalar (kind_in v.type))
  integer-shape v h e =
      let i = integer-type v.type e in
      h.shape ∙ ap (gives known) i.1 ∙ ap (λ t. Some (Scalar (kind_in t))) (sym i.1)

  pub is-integer-shape : (v : Value) → Sound v → is_integer v.type ≡ true → IsIntegerShape (shape_of g v.expr)
  is-integer-shape v h e =
      let i = integer-type v.type e in
      subst IsIntegerShape (sym (h.shape ∙ ap (gives known) i.1)) (integer-kind i.0)

  pub pointer-shape : (v : Value) → Sound v → is_pointer v.type ≡ true → shape_of g v.expr ≡ Some (Scalar Ptr)
  pointer-shape v h e = h.shape ∙ pointer-gives known v.type e

  pub scalar-shape : (v : Value) → Sound v → is_scalar v.type ≡ true → IsScalarShape (shape_of g v.expr)
  scalar-shape v h e =
      ⊎_elim (λ i. subst IsScalarShape (sym (integer-shape v h i)) tt) (λ i. subst IsScalarShape (sym (pointer-shape v h i)) tt) (or-true (is_integer v.type) (is_pointer v.type) e)

  -- an operand that is converted
  pub record IsOf (kind : Kind) (e : Expr) : Type 0 where
    pub typed : IsTyped g f e
    pub shape : shape_of g e ≡ Some (Scalar kind)

  pub as-integer-sound : (i : Integer) (v : Value) → Sound v → is_integer v.type ≡ true → IsOf (kind_of i) (as_integer i v)
  as-integer-sound i v h e = by-kind (same_kind (kind_of i) (kind_in v.type)) refl
    where
      by-kind : (x : Bool) → same_kind (kind_of i) (kind_in v.type) ≡ x → IsOf (kind_of i) (if x then v.expr else Convert (kind_of i) v.expr)
      by-kind true same = record { typed = h.typed; shape = integer-shape v h e ∙ ap (λ k. Some (Scalar k)) (sym (same_kind-is (kind_of i) (kind_in v.type) same)) }
      by-kind false same = record { typed = (integer-kind i, h.typed, is-integer-shape v h e); shape = refl }

  pub as-pointer-sound : (v : Value) → Sound v → IsOf Ptr (as_pointer v)
  as-pointer-sound v h = by-kind (is_pointer v.type) refl
    where
      by-kind : (x : Bool) → is_pointer v.type ≡ x → IsOf Ptr (if x then v.expr else NullPointer Ptr)
      by-kind true e = record { typed = h.typed; shape = pointer-shape v h e }
      by-kind false e = record { typed = refl; shape = refl }

  arithmetic-sound : (op : store_op.BinaryOp) (x y : Value) → ((kind : Kind) (shape : Option Access) → shape ≡ Some (Scalar kind) → IsRightShape op kind shape) → Sound x → Sound y → is_integer x.type ≡ true → is_integer y.type ≡ true → Sound (arithmetic op x y)
  arithmetic-sound op x y right hx hy ix iy =
      let i = common x.type y.type in
      let left = as-integer-sound i x hx ix in
      let other = as-integer-sound i y hy iy in
      record { plain = refl; typed = (common-kind x.type y.type, left.typed, other.typed, left.shape, right (kind_of i) _ other.shape); shape = refl }

  shifted-sound : (op : store_op.BinaryOp) (x y : Value) → ((kind : Kind) (shape : Option Access) → IsPromotedShape shape → IsRightShape op kind shape) → Sound x → Sound y → is_integer x.type ≡ true → is_integer y.type ≡ true → Sound (shifted op x y)
  shifted-sound op x y right hx hy ix iy =
      let i = promoted (integer_of x.type) in
      let j = promoted (integer_of y.type) in
      let left = as-integer-sound i x hx ix in
      let other = as-integer-sound j y hy iy in
      record { plain = refl; typed = (promoted-kind (integer_of x.type), left.typed, other.typed, left.shape, right (kind_of i) _ (subst IsPromotedShape (sym other.shape) (promoted-kind (integer_of y.type)))); shape = refl }

  comparison-sound : (op : Comparison) (x y : Value) → Sound x → Sound y → (is_pointer x.type ≡ false → is_pointer y.type ≡ false → (is_integer x.type ≡ true) × (is_integer y.type ≡ true)) → Sound (comparison op x y)
  comparison-sound op x y hx hy integers = by-kind (is_pointer x.type || is_pointer y.type) refl
    where
      by-kind : (t : Bool) → (is_pointer x.type || is_pointer y.type) ≡ t → Sound (if t then int_value (Compare op Ptr (as_pointer x) (as_pointer y)) else int_value (Compare op (kind_of (common x.type y.type)) (as_integer (common x.type y.type) x) (as_integer (common x.type y.type) y)))
      by-kind true e =
          let left = as-pointer-sound x hx in
          let other = as-pointer-sound y hy in
          record { plain = refl; typed = (left.typed, other.typed, left.shape, other.shape, tt); shape = refl }
      by-kind false e =
          let none = or-false (is_pointer x.type) (is_pointer y.type) e in
          let both = integers none.0 none.1 in
          let i = common x.type y.type in
          let left = as-integer-sound i x hx both.0 in
          let other = as-integer-sound i y hy both.1 in
          record { plain = refl; typed = (left.typed, other.typed, left.shape, other.shape, compared-kind (kind_of i) (common-kind x.type y.type)); shape = refl }

  -- what the rules say of the types of two operands

  abbrev both_integers : CType → CType → Bool
  both_integers a b = is_integer a && is_integer b

  abbrev index_types : CType → CType → Bool
  index_types a b = (points_to_complete known a && is_integer b) || (is_integer a && points_to_complete known b)

  abbrev add_types : CType → CType → Bool
  add_types a b = both_integers a b || index_types a b

  abbrev subtract_types : CType → CType → Bool
  subtract_types a b = both_integers a b || (points_to_complete known a && (is_integer b || are_like_pointers a b))

  abbrev order_types : CType → CType → Bool
  order_types a b = both_integers a b || are_like_pointers a b

  abbrev equal_types : Bool → Bool → CType → CType → Bool
  equal_types m n a b = order_types a b || ((is_pointer a && (is_integer b && n)) || ((is_integer a && m) && is_pointer b))

  -- neither is a pointer: then both are integers

  add-integers : (a b : CType) → add_types a b ≡ true → is_pointer a ≡ false → is_pointer b ≡ false → (is_integer a ≡ true) × (is_integer b ≡ true)
  add-integers a b e pa pb =
      ⊎_elim (λ h. both-true (is_integer a) (is_integer b) h)
      (λ h. ⊎_elim (λ k. never (is_pointer a) (complete-pointer known a (both-true (points_to_complete known a) (is_integer b) k).0) pa)
      (λ k. never (is_pointer b) (complete-pointer known b (both-true (is_integer a) (points_to_complete known b) k).1) pb)
      (or-true (points_to_complete known a && is_integer b) (is_integer a && points_to_complete known b) h))
      (or-true (both_integers a b) (index_types a b) e)

  add-right : (a b : CType) → add_types a b ≡ true → is_pointer a ≡ true → is_integer b ≡ true
  add-right a b e pa =
      ⊎_elim (λ h. (both-true (is_integer a) (is_integer b) h).1)
      (λ h. ⊎_elim (λ k. (both-true (points_to_complete known a) (is_integer b) k).1)
      (λ k. never (is_integer a) (both-true (is_integer a) (points_to_complete known b) k).0 (no-integer a pa))
      (or-true (points_to_complete known a && is_integer b) (is_integer a && points_to_complete known b) h))
      (or-true (both_integers a b) (index_types a b) e)

  add-left : (a b : CType) → add_types a b ≡ true → is_pointer a ≡ false → is_integer a ≡ true
  add-left a b e pa =
      ⊎_elim (λ h. (both-true (is_integer a) (is_integer b) h).0)
      (λ h. ⊎_elim (λ k. never (is_pointer a) (complete-pointer known a (both-true (points_to_complete known a) (is_integer b) k).0) pa)
      (λ k. (both-true (is_integer a) (points_to_complete known b) k).0)
      (or-true (points_to_complete known a && is_integer b) (is_integer a && points_to_complete known b) h))
      (or-true (both_integers a b) (index_types a b) e)

  -- a pointer that is moved points to a complete type

  pub add-first-points : (a b : CType) → add_types a b ≡ true → is_pointer a ≡ true → points_to_complete known a ≡ true
  add-first-points a b e pa =
      ⊎_elim (λ h. never (is_integer a) (both-true (is_integer a) (is_integer b) h).0 (no-integer a pa))
      (λ h. ⊎_elim (λ k. (both-true (points_to_complete known a) (is_integer b) k).0)
      (λ k. never (is_integer a) (both-true (is_integer a) (points_to_complete known b) k).0 (no-integer a pa))
      (or-true (points_to_complete known a && is_integer b) (is_integer a && points_to_complete known b) h))
      (or-true (both_integers a b) (index_types a b) e)

  add-second-points : (a b : CType) → add_types a b ≡ true → is_pointer a ≡ false → is_pointer b ≡ true → points_to_complete known b ≡ true
  add-second-points a b e pa pb =
      ⊎_elim (λ h. never (is_integer b) (both-true (is_integer a) (is_integer b) h).1 (no-integer b pb))
      (λ h. ⊎_elim (λ k. never (is_pointer a) (complete-pointer known a (both-true (points_to_complete known a) (is_integer b) k).0) pa)
      (λ k. (both-true (is_integer a) (points_to_complete known b) k).1)
      (or-true (points_to_complete known a && is_integer b) (is_integer a && points_to_complete known b) h))
      (or-true (both_integers a b) (index_types a b) e)

  pub subtract-points : (a b : CType) → subtract_types a b ≡ true → is_pointer a ≡ true → points_to_complete known a ≡ true
  subtract-points a b e pa =
      ⊎_elim (λ h. never (is_integer a) (both-true (is_integer a) (is_integer b) h).0 (no-integer a pa))
      (λ h. (both-true (points_to_complete known a) (is_integer b || are_like_pointers a b) h).0)
      (or-true (both_integers a b) (points_to_complete known a && (is_integer b || are_like_pointers a b)) e)

  subtract-right : (a b : CType) → subtract_types a b ≡ true → is_pointer b ≡ false → is_integer b ≡ true
  subtract-right a b e pb =
      ⊎_elim (λ h. (both-true (is_integer a) (is_integer b) h).1)
      (λ h. ⊎_elim (λ k. k) (λ k. never (is_pointer b) (like-pointers a b k).1 pb)
      (or-true (is_integer b) (are_like_pointers a b) (both-true (points_to_complete known a) (is_integer b || are_like_pointers a b) h).1))
      (or-true (both_integers a b) (points_to_complete known a && (is_integer b || are_like_pointers a b)) e)

  subtract-left : (a b : CType) → subtract_types a b ≡ true → is_pointer a ≡ false → (is_integer a ≡ true) × (is_integer b ≡ true)
  subtract-left a b e pa =
      ⊎_elim (λ h. both-true (is_integer a) (is_integer b) h)
      (λ h. never (is_pointer a) (complete-pointer known a (both-true (points_to_complete known a) (is_integer b || are_like_pointers a b) h).0) pa)
      (or-true (both_integers a b) (points_to_complete known a && (is_integer b || are_like_pointers a b)) e)

  order-integers : (a b : CType) → order_types a b ≡ true → is_pointer a ≡ false → is_pointer b ≡ false → (is_integer a ≡ true) × (is_integer b ≡ true)
  order-integers a b e pa pb =
      ⊎_elim (λ h. both-true (is_integer a) (is_integer b) h) (λ h. never (is_pointer a) (like-pointers a b h).0 pa) (or-true (both_integers a b) (are_like_pointers a b) e)

  equal-integers : (m n : Bool) (a b : CType) → equal_types m n a b ≡ true → is_pointer a ≡ false → is_pointer b ≡ false → (is_integer a ≡ true) × (is_integer b ≡ true)
  equal-integers m n a b e pa pb =
      ⊎_elim (λ h. order-integers a b h pa pb)
      (λ h. ⊎_elim (λ k. never (is_pointer a) (both-true (is_pointer a) (is_integer b && n) k).0 pa) (λ k. never (is_pointer b) (both-true (is_integer a && m) (is_pointer b) k).1 pb)
      (or-true (is_pointer a && (is_integer b && n)) ((is_integer a && m) && is_pointer b) h))
      (or-true (order_types a b) ((is_pointer a && (is_integer b && n)) || ((is_integer a && m) && is_pointer b)) e)

  pub sum-sound : (x y : Value) → Sound x → Sound y → MovesWell known x.type → MovesWell known y.type → add_types x.type y.type ≡ true → Sound (sum known x y)
  sum-sound x y hx hy mx my e = by-kind (is_pointer x.type || is_pointer y.type) refl
    where
      by-first : (t : Bool) → is_pointer x.type ≡ t → (is_pointer x.type || is_pointer y.type) ≡ true
          → Sound (if t then record { type = x.type; expr = Move (element_size known x.type) false x.expr y.expr } else record { type = y.type; expr = MoveBy (element_size known y.type) x.expr y.expr })
      by-first true p h = record {
        plain = hx.plain;
        typed = (mx (add-first-points x.type y.type e p), hx.typed, hy.typed, pointer-shape x hx p, is-integer-shape y hy (add-right x.type y.type e p));
        shape = sym (pointer-gives known x.type p);
      }
      by-first false p h =
          let q : is_pointer y.type ≡ true = ⊎_elim (λ k. never (is_pointer x.type) k p) (λ k. k) (or-true (is_pointer x.type) (is_pointer y.type) h) in
          record {
            plain = hy.plain;
            typed = (my (add-second-points x.type y.type e p q), hx.typed, hy.typed, is-integer-shape x hx (add-left x.type y.type e p), pointer-shape y hy q);
            shape = sym (pointer-gives known y.type q);
          }

      by-kind : (t : Bool) → (is_pointer x.type || is_pointer y.type) ≡ t → Sound (if t then moved known x y else arithmetic s.Add x y)
      by-kind true h = by-first (is_pointer x.type) refl h
      by-kind false h =
          let none = or-false (is_pointer x.type) (is_pointer y.type) h in
          let both = add-integers x.type y.type e none.0 none.1 in
          arithmetic-sound s.Add x y (λ kind shape k. k) hx hy both.0 both.1

  difference-sound : (x y : Value) → Sound x → Sound y → MovesWell known x.type → subtract_types x.type y.type ≡ true → Sound (difference known x y)
  difference-sound x y hx hy mx e = by-kind (is_pointer x.type && is_pointer y.type) refl
    where
      and-false : (p q : Bool) → (p && q) ≡ false → p ≡ true → q ≡ false
      and-false true q h k = h
      and-false false q h k = absurd (cc)

      by-first : (t : Bool) → is_pointer x.type ≡ t → (is_pointer x.type && is_pointer y.type) ≡ false
          → Sound (if t then record { type = x.type; expr = Move (element_size known x.type) true x.expr y.expr } else arithmetic s.Subtract x y)
      by-first true p h = record {
        plain = hx.plain;
        typed = (mx (subtract-points x.type y.type e p), hx.typed, hy.typed, pointer-shape x hx p, is-integer-shape y hy (subtract-right x.type y.type e (and-false (is_pointer x.type) (is_pointer y.type) h p)));
        shape = sym (pointer-gives known x.type p);
      }
      by-first false p h = let both = subtract-left x.type y.type e p in arithmetic-sound s.Subtract x y (λ kind shape k. k) hx hy both.0 both.1

      by-kind : (t : Bool) → (is_pointer x.type && is_pointer y.type) ≡ t
          → Sound (if t then int_value (Distance (element_size known x.type) x.expr y.expr) else (if is_pointer x.type then record { type = x.type; expr = Move (element_size known x.type) true x.expr y.expr } else arithmetic s.Subtract x y))
      by-kind true h =
          let both = both-true (is_pointer x.type) (is_pointer y.type) h in
          record { plain = refl; typed = (mx (subtract-points x.type y.type e both.0), hx.typed, hy.typed, pointer-shape x hx both.0, pointer-shape y hy both.1); shape = refl }
      by-kind false h = by-first (is_pointer x.type) refl h

  -- the rules see the types of the values
  pub seen : (R : CType → CType → Bool) (x y : Term) → Sound (value_of known x) → Sound (value_of known y) → R (value_type (operand_of x)) (value_type (operand_of y)) ≡ true → R (value_of known x).type (value_of known y).type ≡ true
  seen R x y hx hy e =
      ap (λ t. R t (value_of known y).type) (sym (type-seen known x hx.plain)) ∙ ap (R (value_type (operand_of x))) (sym (type-seen known y hy.plain)) ∙ e

  logic-sound : (x y : Term) → Sound (value_of known x) → Sound (value_of known y) → (is_scalar (value_type (operand_of x)) && is_scalar (value_type (operand_of y))) ≡ true
      → IsScalarShape (shape_of g (value_of known x).expr) × IsScalarShape (shape_of g (value_of known y).expr)
  logic-sound x y hx hy e =
      let both = both-true (is_scalar (value_of known x).type) (is_scalar (value_of known y).type) (seen (λ t u. is_scalar t && is_scalar u) x y hx hy e) in
      (scalar-shape (value_of known x) hx both.0, scalar-shape (value_of known y) hy both.1)

  integers-seen : (x y : Term) → Sound (value_of known x) → Sound (value_of known y) → both_integers (value_type (operand_of x)) (value_type (operand_of y)) ≡ true → (is_integer (value_of known x).type ≡ true) × (is_integer (value_of known y).type ≡ true)
  integers-seen x y hx hy e = both-true (is_integer (value_of known x).type) (is_integer (value_of known y).type) (seen both_integers x y hx hy e)

  plain-sound : (op : store_op.BinaryOp) (x y : Term) → ((kind : Kind) (shape : Option Access) → shape ≡ Some (Scalar kind) → IsRightShape op kind shape) → Sound (value_of known x) → Sound (value_of known y)
      → both_integers (value_type (operand_of x)) (value_type (operand_of y)) ≡ true → Sound (arithmetic op (value_of known x) (value_of known y))
  plain-sound op x y right hx hy e =
      let both = integers-seen x y hx hy e in
      arithmetic-sound op (value_of known x) (value_of known y) right hx hy both.0 both.1

  shift-sound : (op : store_op.BinaryOp) (x y : Term) → ((kind : Kind) (shape : Option Access) → IsPromotedShape shape → IsRightShape op kind shape) → Sound (value_of known x) → Sound (value_of known y)
      → both_integers (value_type (operand_of x)) (value_type (operand_of y)) ≡ true → Sound (shifted op (value_of known x) (value_of known y))
  shift-sound op x y right hx hy e =
      let both = integers-seen x y hx hy e in
      shifted-sound op (value_of known x) (value_of known y) right hx hy both.0 both.1

  order-sound : (op : Comparison) (x y : Term) → Sound (value_of known x) → Sound (value_of known y) → order_types (value_type (operand_of x)) (value_type (operand_of y)) ≡ true → Sound (comparison op (value_of known x) (value_of known y))
  order-sound op x y hx hy e =
      comparison-sound op (value_of known x) (value_of known y) hx hy (λ pa pb. order-integers (value_of known x).type (value_of known y).type (seen order_types x y hx hy e) pa pb)

  equal-sound : (op : Comparison) (x y : Term) → Sound (value_of known x) → Sound (value_of known y) → equal_types (operand_of x).is_null (operand_of y).is_null (value_type (operand_of x)) (value_type (operand_of y)) ≡ true
      → Sound (comparison op (value_of known x) (value_of known y))
  equal-sound op x y hx hy e =
      comparison-sound op (value_of known x) (value_of known y) hx hy
      (λ pa pb. equal-integers (operand_of x).is_null (operand_of y).is_null (value_of known x).type (value_of known y).type (seen (equal_types (operand_of x).is_null (operand_of y).is_null) x y hx hy e) pa pb)

  pub operations : (op : BinaryOp) (x y : Term) → Sound (value_of known x) → Sound (value_of known y) → MovesWell known (value_of known x).type → MovesWell known (value_of known y).type → allows known op (operand_of x) (operand_of y) ≡ true
      → Sound (operation known op (value_of known x) (value_of known y))
  operations b.Or x y hx hy mx my e = let h = logic-sound x y hx hy e in record { plain = refl; typed = (hx.typed, hy.typed, h.0, h.1); shape = refl }
  operations b.And x y hx hy mx my e = let h = logic-sound x y hx hy e in record { plain = refl; typed = (hx.typed, hy.typed, h.0, h.1); shape = refl }
  operations b.BitOr x y hx hy mx my e = plain-sound s.BitOr x y (λ kind shape k. k) hx hy e
  operations b.BitXor x y hx hy mx my e = plain-sound s.BitXor x y (λ kind shape k. k) hx hy e
  operations b.BitAnd x y hx hy mx my e = plain-sound s.BitAnd x y (λ kind shape k. k) hx hy e
  operations b.Equal x y hx hy mx my e = equal-sound c.Equal x y hx hy e
  operations b.NotEqual x y hx hy mx my e = equal-sound c.NotEqual x y hx hy e
  operations b.Less x y hx hy mx my e = order-sound c.Less x y hx hy e
  operations b.Greater x y hx hy mx my e = order-sound c.Greater x y hx hy e
  operations b.LessEqual x y hx hy mx my e = order-sound c.LessOrEqual x y hx hy e
  operations b.GreaterEqual x y hx hy mx my e = order-sound c.GreaterOrEqual x y hx hy e
  operations b.ShiftLeft x y hx hy mx my e = shift-sound s.ShiftLeft x y (λ kind shape k. k) hx hy e
  operations b.ShiftRight x y hx hy mx my e = shift-sound s.ShiftRight x y (λ kind shape k. k) hx hy e
  operations b.Add x y hx hy mx my e = sum-sound (value_of known x) (value_of known y) hx hy mx my (seen add_types x y hx hy e)
  operations b.Subtract x y hx hy mx my e = difference-sound (value_of known x) (value_of known y) hx hy mx (seen subtract_types x y hx hy e)
  operations b.Multiply x y hx hy mx my e = plain-sound s.Multiply x y (λ kind shape k. k) hx hy e
  operations b.Divide x y hx hy mx my e = plain-sound s.Divide x y (λ kind shape k. k) hx hy e
  operations b.Remainder x y hx hy mx my e = plain-sound s.Remainder x y (λ kind shape k. k) hx hy e
