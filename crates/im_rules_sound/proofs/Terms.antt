-- Lvalues that are read, unary operators, casts and commas.
use Rattle.std.proofs.Common.{◌≡◌, ◌||◌, true, false, refl, sym, ap, ◌∙◌, arith}
use Rattle.im_ctree.specs.declared.operator.UnaryOp.{UnaryOp}
use Rattle.im_ctree.specs.declared.operator.UnaryOp.TheVariants as o
use Rattle.im_store.specs.declared.operators.UnaryOp as store_unary
use Rattle.im_store.specs.declared.operators.UnaryOp.TheVariants as u
use Rattle.im_ctype.specs.Types.{CType, void, integer, pointer, array, unsized, struct, function, Structs, is_void, is_integer, is_scalar, is_function}
use Rattle.im_typed.specs.Program.{Func, Prog}
use Rattle.im_rules.specs.TypeTests.{is_complete_in, points_to_complete, target_of}
use Rattle.im_rules.specs.Terms.{Term, lvalue, value, operand_of, value_of}
use Rattle.im_rules.specs.Rules.{value_type}
use Rattle.im_rules.specs.Demands.{Meets, unary_asks, cast_asks}
use Rattle.im_rules.specs.Conversions.{promoted, integer_of, unary_value, unary_term, casted, joined}
use Rattle.im_rules_sound.specs.Sound.{IsSoundValue, IsSized, IsSoundTerm}
use Rattle.im_rules_sound.proofs.Operations.{type-seen, complete-pointer, promoted-kind, scalar-shape, pointer-shape, as-integer-sound}

module _ (g : Prog) (f : Func) (known : Structs) where
  pub reads : (x : Term) → IsSoundTerm g f known x → IsSoundValue g f known (value_of known x)
  reads (lvalue k void p) h = absurd (let e = h.object in cc)
  reads (lvalue k (integer i) p) h = record { plain = refl; typed = (tt, h.typed); shape = refl }
  reads (lvalue k (pointer d t) p) h = record { plain = refl; typed = (tt, h.typed); shape = refl }
  reads (lvalue k (array t n) p) h = record { plain = refl; typed = h.typed; shape = refl }
  reads (lvalue k (unsized t) p) h = record { plain = refl; typed = h.typed; shape = refl }
  reads (lvalue k (struct n) p) h = record { plain = refl; typed = (h.sized.struct refl, h.typed); shape = refl }
  reads (lvalue k (function r ps) p) h = absurd (let e = h.object in cc)
  reads (value v) h = h

  -- an operand that is an integer, as the rules see it
  pub integer-seen : (x : Term) → IsSoundTerm g f known x → is_integer (value_type (operand_of x)) ≡ true → is_integer (value_of known x).type ≡ true
  integer-seen x h e = ap is_integer (sym (type-seen known x (reads x h).plain)) ∙ e

  unary-sound : (op : store_unary.UnaryOp) (x : Term) → IsSoundTerm g f known x → is_integer (value_type (operand_of x)) ≡ true → IsSoundValue g f known (unary_value op (value_of known x))
  unary-sound op x h e =
      let v = value_of known x in
      let i = promoted (integer_of v.type) in
      let part = as-integer-sound g f known i v (reads x h) (integer-seen x h e) in
      record { plain = refl; typed = (promoted-kind (integer_of v.type), part.typed, part.shape); shape = refl }

  -- what a pointer to a complete type points to is an object
  pub complete-object : (t : CType) → is_complete_in known t ≡ true → (is_void t || is_function t) ≡ false
  complete-object void e = absurd (cc)
  complete-object (integer i) e = refl
  complete-object (pointer d t) e = refl
  complete-object (array t n) e = refl
  complete-object (unsized t) e = refl
  complete-object (struct n) e = refl
  complete-object (function r ps) e = absurd (cc)

  pub target-object : (t : CType) → points_to_complete known t ≡ true → (is_void (target_of t) || is_function (target_of t)) ≡ false
  target-object (pointer d t) e = complete-object t e
  target-object void e = absurd (cc)
  target-object (integer i) e = absurd (cc)
  target-object (array t n) e = absurd (cc)
  target-object (unsized t) e = absurd (cc)
  target-object (struct n) e = absurd (cc)
  target-object (function r ps) e = absurd (cc)

  pub unary : (op : UnaryOp) (x : Term) → IsSoundTerm g f known x → (points_to_complete known (value_of known x).type ≡ true → IsSized known (target_of (value_of known x).type)) → Meets (unary_asks known op x) → IsSoundTerm g f known (unary_term known op x)
  unary o.AddressOf (lvalue k t p) h small e = record { plain = refl; typed = h.typed; shape = refl }
  unary o.AddressOf (value v) h small e = absurd (let never_so = e.0 in cc)
  unary o.Dereference x h small e =
      let v = value_of known x in
      let sound = reads x h in
      let points : points_to_complete known v.type ≡ true = ap (points_to_complete known) (sym (type-seen known x sound.plain)) ∙ e.0 in
      let sized = small points in
      let size = sized.size in
      record {
        typed = (sound.typed, pointer-shape g f known v sound (complete-pointer known v.type points));
        fits = omega arith;
        object = target-object v.type points;
        sized = sized;
      }
  unary o.Plus x h small e =
      let v = value_of known x in
      let part = as-integer-sound g f known (promoted (integer_of v.type)) v (reads x h) (integer-seen x h e.0) in
      record { plain = refl; typed = part.typed; shape = part.shape }
  unary o.Minus x h small e = unary-sound u.Negate x h e.0
  unary o.BitNot x h small e = unary-sound u.Complement x h e.0
  unary o.Not x h small e =
      let v = value_of known x in
      let scalar : is_scalar v.type ≡ true = ap is_scalar (sym (type-seen known x (reads x h).plain)) ∙ e.0 in
      record { plain = refl; typed = ((reads x h).typed, scalar-shape g f known v (reads x h) scalar); shape = refl }

  pub casts : (t : CType) (x : Term) → IsSoundTerm g f known x → Meets (cast_asks t x) → IsSoundValue g f known (casted t (value_of known x))
  casts void x h e = record { plain = refl; typed = (reads x h).typed; shape = refl }
  casts (integer i) x h e =
      let part = as-integer-sound g f known i (value_of known x) (reads x h) (integer-seen x h e.0) in
      record { plain = refl; typed = part.typed; shape = part.shape }
  casts (pointer d t) x h e = absurd (let never_so = e.0 in cc)
  casts (array t n) x h e = absurd (let never_so = e.0 in cc)
  casts (unsized t) x h e = absurd (let never_so = e.0 in cc)
  casts (struct n) x h e = absurd (let never_so = e.0 in cc)
  casts (function r ps) x h e = absurd (let never_so = e.0 in cc)

  pub commas : (x y : Term) → IsSoundTerm g f known x → IsSoundTerm g f known y → IsSoundValue g f known (joined (value_of known x) (value_of known y))
  commas x y h k = record { plain = (reads y k).plain; typed = ((reads x h).typed, (reads y k).typed); shape = (reads y k).shape }
