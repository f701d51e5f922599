-- Choices, assignments and steps.
use Rattle.std.proofs.Common.{◌≡◌, ℕ, ◌&&◌, ◌||◌, ⊎_elim, Bool, true, false, refl, sym, ap, ◌∙◌}
use Rattle.std.specs.Prelude.{Some, if◌then◌else◌}
use Rattle.std.proofs.lemmas.Bool.{eqb-true}
use Rattle.im_num.specs.declared.kind.Kind.TheVariants.{Ptr}
use Rattle.im_store.proofs.Same.{both-true}
use Rattle.im_ctype.specs.Types.{CType, void, integer, pointer, array, unsized, struct, function, Structs, same_type, is_void, is_integer, is_pointer, is_array, is_scalar, is_struct}
use Rattle.im_typed.specs.Program.{Scalar, Func, Prog, Choose}
use Rattle.im_typed.specs.Typing.{shape_of, IsScalarShape}
use Rattle.im_rules.specs.Terms.{Term, lvalue, value, operand_of, type_in, value_of}
use Rattle.im_rules.specs.Rules.{value_type, is_integer_null, rule_31}
use Rattle.im_rules.specs.Demands.{Meets, conditional_asks}
use Rattle.im_rules.specs.Conversions.{as_integer, as_pointer, of_integer, common, chosen}
use Rattle.im_rules_sound.specs.Sound.{gives, IsSoundValue, IsSoundTerm}
use Rattle.im_rules_sound.proofs.Operations.{or-true, or-false, never, type-seen, pointer-gives, scalar-shape, as-integer-sound, as-pointer-sound}
use Rattle.im_rules_sound.proofs.Terms.{reads}

void-is : (t : CType) → is_void t ≡ true → t ≡ void
void-is void e = refl
void-is (integer i) e = absurd (cc)
void-is (pointer d t) e = absurd (cc)
void-is (array t n) e = absurd (cc)
void-is (unsized t) e = absurd (cc)
void-is (struct n) e = absurd (cc)
void-is (function r ps) e = absurd (cc)

struct-is : (t : CType) → is_struct t ≡ true → (n : ℕ) × (t ≡ struct n)
struct-is (struct n) e = (n, refl)
struct-is void e = absurd (cc)
struct-is (integer i) e = absurd (cc)
struct-is (pointer d t) e = absurd (cc)
struct-is (array t n) e = absurd (cc)
struct-is (unsized t) e = absurd (cc)
struct-is (function r ps) e = absurd (cc)

pub same-struct : (n : ℕ) (t : CType) → same_type (struct n) t ≡ true → t ≡ struct n
same-struct n (struct m) e = ap struct (sym (eqb-true n m e))
same-struct n void e = absurd (cc)
same-struct n (integer i) e = absurd (cc)
same-struct n (pointer d t) e = absurd (cc)
same-struct n (array t m) e = absurd (cc)
same-struct n (unsized t) e = absurd (cc)
same-struct n (function r ps) e = absurd (cc)

-- what gives as an integer gives is an integer
integer-alike : (known : Structs) (t u : CType) → is_integer t ≡ true → gives known t ≡ gives known u → is_pointer u ≡ false → is_integer u ≡ true
integer-alike known t (integer i) it e pu = refl
integer-alike known t (pointer d u) it e pu = absurd (cc)
integer-alike known (integer i) void it e pu = absurd (cc)
integer-alike known (integer i) (array u n) it e pu = absurd (cc)
integer-alike known (integer i) (unsized u) it e pu = absurd (cc)
integer-alike known (integer i) (struct n) it e pu = absurd (cc)
integer-alike known (integer i) (function r ps) it e pu = absurd (cc)
integer-alike known _ u it e pu = absurd (cc)

module _ (g : Prog) (f : Func) (known : Structs) where
  -- void and structs are the same as values

  void-value : (x : Term) → IsSoundTerm g f known x → is_void (type_in x) ≡ true → (value_of known x).type ≡ void
  void-value (lvalue k void p) h e = absurd (let object = h.object in cc)
  void-value (lvalue k (integer i) p) h e = absurd (cc)
  void-value (lvalue k (pointer d t) p) h e = absurd (cc)
  void-value (lvalue k (array t n) p) h e = absurd (cc)
  void-value (lvalue k (unsized t) p) h e = absurd (cc)
  void-value (lvalue k (struct n) p) h e = absurd (cc)
  void-value (lvalue k (function r ps) p) h e = absurd (cc)
  void-value (value v) h e = void-is v.type e

  struct-value : (x : Term) (n : ℕ) → type_in x ≡ struct n → (value_of known x).type ≡ struct n
  struct-value (lvalue k t p) n e = ap (λ s. (value_of known (lvalue k s p)).type) e
  struct-value (value v) n e = e

  abbrev Alike : Term → Term → Type 0
  Alike x y = gives known (value_of known x).type ≡ gives known (value_of known y).type

  voids-alike : (x y : Term) → IsSoundTerm g f known x → IsSoundTerm g f known y → (is_void (type_in x) && is_void (type_in y)) ≡ true → Alike x y
  voids-alike x y hx hy e =
      let both = both-true (is_void (type_in x)) (is_void (type_in y)) e in
      ap (gives known) (void-value x hx both.0 ∙ sym (void-value y hy both.1))

  structs-alike : (x y : Term) → (is_struct (type_in x) && same_type (type_in x) (type_in y)) ≡ true → Alike x y
  structs-alike x y e =
      let both = both-true (is_struct (type_in x)) (same_type (type_in x) (type_in y)) e in
      let n = struct-is (type_in x) both.0 in
      let other = same-struct n.0 (type_in y) (ap (λ t. same_type t (type_in y)) (sym n.1) ∙ both.1) in
      ap (gives known) (struct-value x n.0 n.1 ∙ sym (struct-value y n.0 other))

  seen : (x : Term) → IsSoundTerm g f known x → value_type (operand_of x) ≡ (value_of known x).type
  seen x h = type-seen known x (reads g f known x h).plain

  -- where neither is a pointer, the results are integers or alike
  choice-kinds : {P : Type 0} (x y : Term) → IsSoundTerm g f known x → IsSoundTerm g f known y → rule_31 (operand_of x) (operand_of y) ≡ true → is_pointer (value_of known x).type ≡ false → is_pointer (value_of known y).type ≡ false
      → ((is_integer (value_of known x).type ≡ true) → (is_integer (value_of known y).type ≡ true) → P) → (Alike x y → P) → P
  choice-kinds x y hx hy e px py ints alike =
      let vx = value_type (operand_of x) in
      let vy = value_type (operand_of y) in
      let qx : is_pointer vx ≡ false = ap is_pointer (seen x hx) ∙ px in
      let qy : is_pointer vy ≡ false = ap is_pointer (seen y hy) ∙ py in
      ⊎_elim
      (λ h. let both = both-true (is_integer vx) (is_integer vy) h in ints (ap is_integer (sym (seen x hx)) ∙ both.0) (ap is_integer (sym (seen y hy)) ∙ both.1))
      (λ h₁. ⊎_elim (λ h. alike (voids-alike x y hx hy h))
      (λ h₂. ⊎_elim (λ h. alike (structs-alike x y h))
      (λ h₃. ⊎_elim (λ h. never (is_pointer vx) (both-true (is_pointer vx) (same_type vx vy) h).0 qx)
      (λ h₄. ⊎_elim (λ h. never (is_pointer vx) (both-true (is_pointer vx) (is_integer_null (operand_of y)) h).0 qx)
      (λ h. never (is_pointer vy) (both-true (is_integer_null (operand_of x)) (is_pointer vy) h).1 qy)
      (or-true (is_pointer vx && is_integer_null (operand_of y)) (is_integer_null (operand_of x) && is_pointer vy) h₄))
      (or-true (is_pointer vx && same_type vx vy) ((is_pointer vx && is_integer_null (operand_of y)) || (is_integer_null (operand_of x) && is_pointer vy)) h₃))
      (or-true (is_struct (type_in x) && same_type (type_in x) (type_in y)) ((is_pointer vx && same_type vx vy) || ((is_pointer vx && is_integer_null (operand_of y)) || (is_integer_null (operand_of x) && is_pointer vy))) h₂))
      (or-true (is_void (type_in x) && is_void (type_in y)) ((is_struct (type_in x) && same_type (type_in x) (type_in y)) || ((is_pointer vx && same_type vx vy) || ((is_pointer vx && is_integer_null (operand_of y)) || (is_integer_null (operand_of x) && is_pointer vy)))) h₁))
      (or-true (is_integer vx && is_integer vy) ((is_void (type_in x) && is_void (type_in y)) || ((is_struct (type_in x) && same_type (type_in x) (type_in y)) || ((is_pointer vx && same_type vx vy) || ((is_pointer vx && is_integer_null (operand_of y)) || (is_integer_null (operand_of x) && is_pointer vy))))) e)

  -- the pointer of two types of which one is one
  one-plain : (t u : CType) → (p : Bool) → is_array t ≡ false → is_array u ≡ false → is_array (if p then t else u) ≡ false
  one-plain t u true ht hu = ht
  one-plain t u false ht hu = hu

  one-gives : (t u : CType) (p : Bool) → is_pointer t ≡ p → (is_pointer t || is_pointer u) ≡ true → Some (Scalar Ptr) ≡ gives known (if p then t else u)
  one-gives t u true e h = sym (pointer-gives known t e)
  one-gives t u false e h = sym (pointer-gives known u (⊎_elim (λ k. never (is_pointer t) k e) (λ k. k) (or-true (is_pointer t) (is_pointer u) h)))

  pub choices : (w x y : Term) → IsSoundTerm g f known w → IsSoundTerm g f known x → IsSoundTerm g f known y → Meets (conditional_asks w x y) → IsSoundValue g f known (chosen known (value_of known w) (value_of known x) (value_of known y))
  choices w x y hw hx hy e = by-kind (is_pointer (value_of known x).type || is_pointer (value_of known y).type) refl
    where
      test : IsScalarShape (shape_of g (value_of known w).expr)
      test = scalar-shape g f known (value_of known w) (reads g f known w hw) (ap is_scalar (sym (seen w hw)) ∙ e.0)

      by-integer : (t : Bool) → is_integer (value_of known x).type ≡ t → is_pointer (value_of known x).type ≡ false → is_pointer (value_of known y).type ≡ false
          → IsSoundValue g f known (if t then of_integer (common (value_of known x).type (value_of known y).type) (Choose (value_of known w).expr (as_integer (common (value_of known x).type (value_of known y).type) (value_of known x)) (as_integer (common (value_of known x).type (value_of known y).type) (value_of known y))) else record { type = (value_of known x).type; expr = Choose (value_of known w).expr (value_of known x).expr (value_of known y).expr })
      by-integer true ix px py =
          let i = common (value_of known x).type (value_of known y).type in
          let iy : is_integer (value_of known y).type ≡ true = choice-kinds x y hx hy e.1.0 px py (λ a b. b) (λ k. integer-alike known (value_of known x).type (value_of known y).type ix k py) in
          let one = as-integer-sound g f known i (value_of known x) (reads g f known x hx) ix in
          let other = as-integer-sound g f known i (value_of known y) (reads g f known y hy) iy in
          record { plain = refl; typed = ((reads g f known w hw).typed, one.typed, other.typed, test, one.shape ∙ sym other.shape); shape = one.shape }
      by-integer false ix px py =
          let same : gives known (value_of known x).type ≡ gives known (value_of known y).type = choice-kinds x y hx hy e.1.0 px py (λ a b. never (is_integer (value_of known x).type) a ix) (λ k. k) in
          let sx = reads g f known x hx in
          let sy = reads g f known y hy in
          record { plain = sx.plain; typed = ((reads g f known w hw).typed, sx.typed, sy.typed, test, sx.shape ∙ same ∙ sym sy.shape); shape = sx.shape }

      by-kind : (t : Bool) → (is_pointer (value_of known x).type || is_pointer (value_of known y).type) ≡ t
          → IsSoundValue g f known (if t then record { type = if is_pointer (value_of known x).type then (value_of known x).type else (value_of known y).type; expr = Choose (value_of known w).expr (as_pointer (value_of known x)) (as_pointer (value_of known y)) }
          else (if is_integer (value_of known x).type then of_integer (common (value_of known x).type (value_of known y).type) (Choose (value_of known w).expr (as_integer (common (value_of known x).type (value_of known y).type) (value_of known x)) (as_integer (common (value_of known x).type (value_of known y).type) (value_of known y))) else record { type = (value_of known x).type; expr = Choose (value_of known w).expr (value_of known x).expr (value_of known y).expr }))
      by-kind true h =
          let one = as-pointer-sound g f known (value_of known x) (reads g f known x hx) in
          let other = as-pointer-sound g f known (value_of known y) (reads g f known y hy) in
          record {
            plain = one-plain (value_of known x).type (value_of known y).type (is_pointer (value_of known x).type) (reads g f known x hx).plain (reads g f known y hy).plain;
            typed = ((reads g f known w hw).typed, one.typed, other.typed, test, one.shape ∙ sym other.shape);
            shape = one.shape ∙ one-gives (value_of known x).type (value_of known y).type (is_pointer (value_of known x).type) refl h;
          }
      by-kind false h = let none = or-false (is_pointer (value_of known x).type) (is_pointer (value_of known y).type) h in by-integer (is_integer (value_of known x).type) refl none.0 none.1
