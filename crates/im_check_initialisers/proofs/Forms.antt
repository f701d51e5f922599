-- What an initialiser of each form is, and the string literals that are read in it.
use Rattle.std.proofs.Common.{◌≡◌, ℕ, ◌+◌, ◌<◌, ◌≤◌, Bool, true, false, List, [], ◌∷◌, length, get_or, refl, sym, ap, ◌∙◌, subst, arith}
use Rattle.std.specs.Prelude.{if◌then◌else◌}
use Rattle.std.proofs.lemmas.List.{append-nil}
use Rattle.std.proofs.lemmas.Bool.{leb-true}
use Rattle.im_ctree.specs.declared.declaration.Initializer as ini
use Rattle.im_ctree.specs.declared.expression.Expression.{Expression}
use Rattle.im_ctree.specs.Tree as t
use Rattle.im_ctype.specs.declared.integer.Integer.{Integer}
use Rattle.im_ctype.specs.Types.{CType, void, integer, pointer, array, unsized, struct, function, Structs, members_of}
use Rattle.im_check_expressions.specs.im_rules.Demands.{Meets}
use Rattle.im_check_expressions.specs.im_rules.Initialisers as n
use Rattle.im_check_expressions.specs.im_rules.Rules.{is_string_for, initializer_count, rule_16}
use Rattle.im_check_expressions.specs.im_rules.Strings.{strings_in}
use Rattle.im_ctree_parts.specs.Lists.{expression_in, initializers_from}
use Rattle.im_check_shapes.proofs.Falls.{size_of, sizes_of}
use Rattle.im_check_texts.proofs.Places.{of_string, of_list}
use Rattle.im_check_initialisers.specs.Forms.{listed}

-- what a form tells of its initialiser
abbrev pub Told : Structs → CType → t.Initializer → n.Shape → Type 0
Told known a i (n.one e) = (n.one_shape i ≡ n.one e) × (n.strings_given known a i ≡ strings_in e)
Told known a i (n.bytes e s) = n.strings_given known a i ≡ []
Told known a i (n.elements e is) =
    (is ≡ listed i) × (n.strings_given known a i ≡ n.strings_among known (n.side_by_side e) is)
Told known a i (n.members m is) =
    (is ≡ listed i) × (n.strings_given known a i ≡ n.strings_among known (n.in_order (members_of known m)) is)
Told known a i n.misshapen = Unit {0}

integer_told : (known : Structs) (k : Integer) (i : t.Initializer) → Told known (integer k) i (n.one_shape i)
integer_told known k (t.value_initializer e) = (refl, refl)
integer_told known k (t.braced_initializer at (t.more_initializers (t.value_initializer e) t.no_initializers)) = (refl, append-nil (strings_in e))
integer_told known k _ = tt

pointer_told : (known : Structs) (c : Bool) (a : CType) (i : t.Initializer) → Told known (pointer c a) i (n.one_shape i)
pointer_told known c a (t.value_initializer e) = (refl, refl)
pointer_told known c a (t.braced_initializer at (t.more_initializers (t.value_initializer e) t.no_initializers)) = (refl, append-nil (strings_in e))
pointer_told known c a _ = tt

string_told : (known : Structs) (e : CType) (m : ℕ) (i : t.Initializer) → is_string_for (array e m) i ≡ true → Told known (array e m) i (n.string_shape e i)
string_told known e m (t.value_initializer (t.string_literal at s)) h =
    of_string known (array e m) (t.value_initializer (t.string_literal at s)) h
string_told known e m (t.braced_initializer at (t.more_initializers (t.value_initializer (t.string_literal at' s)) t.no_initializers)) h =
    of_string known (array e m) (t.braced_initializer at (t.more_initializers (t.value_initializer (t.string_literal at' s)) t.no_initializers)) h
string_told known e m _ h = tt

list_told : (known : Structs) (e : CType) (m : ℕ) (i : t.Initializer) → is_string_for (array e m) i ≡ false → Told known (array e m) i (n.element_shape e i)
list_told known e m (t.value_initializer x) h = tt
list_told known e m (t.braced_initializer at is) h = (refl, of_list known (array e m) at is h)

array_told : (known : Structs) (e : CType) (m : ℕ) (i : t.Initializer) (b : Bool) → is_string_for (array e m) i ≡ b
    → Told known (array e m) i (if b then n.string_shape e i else n.element_shape e i)
array_told known e m i true h = string_told known e m i h
array_told known e m i false h = list_told known e m i h

struct_told : (known : Structs) (m : ℕ) (i : t.Initializer) → Told known (struct m) i (n.struct_shape m i)
struct_told known m (t.value_initializer e) = (refl, refl)
struct_told known m (t.braced_initializer at is) = (refl, refl)

pub told : (known : Structs) (a : CType) (i : t.Initializer) → Told known a i (n.shape a i)
told known (integer k) i = integer_told known k i
told known (pointer c a) i = pointer_told known c a i
told known (array e m) i = array_told known e m i (is_string_for (array e m) i) refl
told known (struct m) i = struct_told known m i
told known void i = tt
told known (unsized e) i = tt
told known (function r ps) i = tt

pub told_of : (known : Structs) (a : CType) (i : t.Initializer) (s : n.Shape) → s ≡ n.shape a i → Told known a i s
told_of known a i s h = subst (λ z. Told known a i z) (sym h) (told known a i)

-- the expression of a form is the one that stands alone
pub one_in : (a : CType) (at : ℕ) (is : t.Initializers) (i : t.Initializer) (x : t.Expression) → i ≡ t.braced_initializer at is
    → n.shape a i ≡ n.one x → n.one_shape (t.braced_initializer at is) ≡ n.one x
one_in a at is i x same shape = ap n.one_shape (sym same) ∙ (told_of [] a i (n.one x) (sym shape)).0

-- it is the first in its braces
pub record IsOnly (v : ini.Initializer) (x : t.Expression) : Type 0 where
  pub e : Expression
  pub is_value : v ≡ ini.Value e
  pub same : x ≡ expression_in e

pub only : (xs : List ini.Initializer) (v : ini.Initializer) (at : ℕ) (x : t.Expression) → v ≡ get_or xs 0 v
    → n.one_shape (t.braced_initializer at (initializers_from xs)) ≡ n.one x → IsOnly v x
only [] v at x is h = absurd (let bad : n.misshapen ≡ n.one x = h in cc)
only (ini.Value e ∷ []) v at x is h = record { e = e; is_value = is; same = (let q : n.one (expression_in e) ≡ n.one x = h in cc) }
only (ini.Value e ∷ y ∷ ys) v at x is h = absurd (let bad : n.misshapen ≡ n.one x = h in cc)
only (ini.List' k m row ∷ ys) v at x is h = absurd (let bad : n.misshapen ≡ n.one x = h in cc)

pub some_there : (xs : List ini.Initializer) (at : ℕ) (x : t.Expression) → n.one_shape (t.braced_initializer at (initializers_from xs)) ≡ n.one x → 0 < length xs
some_there [] at x h = absurd (let bad : n.misshapen ≡ n.one x = h in cc)
some_there (y ∷ ys) at x h = omega arith

-- what a form tells of how many stand in the braces: no more than a struct has members
abbrev pub AreFew : Structs → t.Initializer → n.Shape → Type 0
AreFew known i (n.members m is) = initializer_count (listed i) ≤ length (members_of known m)
AreFew known i (n.one e) = Unit {0}
AreFew known i (n.bytes e s) = Unit {0}
AreFew known i (n.elements e is) = Unit {0}
AreFew known i n.misshapen = Unit {0}

one_few : (known : Structs) (i : t.Initializer) → AreFew known i (n.one_shape i)
one_few known (t.value_initializer e) = tt
one_few known (t.braced_initializer at (t.more_initializers (t.value_initializer e) t.no_initializers)) = tt
one_few known _ = tt

string_few : (known : Structs) (e : CType) (i : t.Initializer) → AreFew known i (n.string_shape e i)
string_few known e (t.value_initializer (t.string_literal at s)) = tt
string_few known e (t.braced_initializer at (t.more_initializers (t.value_initializer (t.string_literal at' s)) t.no_initializers)) = tt
string_few known e _ = tt

element_few : (known : Structs) (e : CType) (i : t.Initializer) → AreFew known i (n.element_shape e i)
element_few known e (t.value_initializer x) = tt
element_few known e (t.braced_initializer at is) = tt

array_few : (known : Structs) (e : CType) (i : t.Initializer) (b : Bool) → AreFew known i (if b then n.string_shape e i else n.element_shape e i)
array_few known e i true = string_few known e i
array_few known e i false = element_few known e i

struct_few : (known : Structs) (m : ℕ) (i : t.Initializer) → rule_16 known (struct m) i ≡ true → AreFew known i (n.struct_shape m i)
struct_few known m (t.value_initializer e) h = tt
struct_few known m (t.braced_initializer at is) h = leb-true (initializer_count is) (length (members_of known m)) h

few : (known : Structs) (a : CType) (i : t.Initializer) → rule_16 known a i ≡ true → AreFew known i (n.shape a i)
few known (integer k) i h = one_few known i
few known (pointer c a) i h = one_few known i
few known (array e m) i h = array_few known e i (is_string_for (array e m) i)
few known (struct m) i h = struct_few known m i h
few known void i h = tt
few known (unsized e) i h = tt
few known (function r ps) i h = tt

pub few_of : (known : Structs) (a : CType) (i : t.Initializer) (s : n.Shape) → Meets (n.shape_asks known a i) → s ≡ n.shape a i → AreFew known i s
few_of known a i s meets h = subst (λ z. AreFew known i z) (sym h) (few known a i meets.0)

-- what stands in its braces is smaller
pub listed_below : (i : t.Initializer) → sizes_of (listed i) < size_of i
listed_below (t.value_initializer e) = omega arith
listed_below (t.braced_initializer at is) = omega arith
