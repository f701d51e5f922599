-- What stands in the braces of an initialiser is smaller than the initialiser.
use Rattle.std.proofs.Common.{ℕ, ◌+◌, ◌<◌, ◌≤◌, Bool, true, false, arith, subst, ◌≡◌, if◌then◌else◌}
use Rattle.im_ctree.specs.Tree as t
use Rattle.im_ctype.specs.Types.{CType, void, integer, pointer, array, unsized, struct, function}
use Rattle.im_check_stop.specs.im_rules.Initialisers as n
use Rattle.im_check_stop.specs.im_rules.Rules.{is_string_for}

abbrev mutual
  -- how many initialisers stand in it, with itself
  pub size_of : t.Initializer → ℕ
  size_of (t.value_initializer e) = 1
  size_of (t.braced_initializer at is) = sizes_of is + 1

  pub sizes_of : t.Initializers → ℕ
  sizes_of t.no_initializers = 0
  sizes_of (t.more_initializers i is) = size_of i + sizes_of is

-- the initialisers of a shape are fewer
abbrev pub IsBelow : ℕ → n.Shape → Type 0
IsBelow k (n.elements e is) = sizes_of is < k
IsBelow k (n.members m is) = sizes_of is < k
IsBelow k s = Unit {0}

one_below : (i : t.Initializer) → IsBelow (size_of i) (n.one_shape i)
one_below (t.value_initializer e) = tt
one_below (t.braced_initializer at (t.more_initializers (t.value_initializer e) t.no_initializers)) = tt
one_below _ = tt

string_below : (k : ℕ) (e : CType) (i : t.Initializer) → IsBelow k (n.string_shape e i)
string_below k e (t.value_initializer (t.string_literal at s)) = tt
string_below k e (t.braced_initializer at (t.more_initializers (t.value_initializer (t.string_literal at' s)) t.no_initializers)) = tt
string_below k e _ = tt

list_below : (e : CType) (i : t.Initializer) → IsBelow (size_of i) (n.element_shape e i)
list_below e (t.value_initializer x) = tt
list_below e (t.braced_initializer at is) = omega arith

array_below : (e : CType) (i : t.Initializer) (b : Bool) → IsBelow (size_of i) (if b then n.string_shape e i else n.element_shape e i)
array_below e i true = string_below (size_of i) e i
array_below e i false = list_below e i

struct_below : (m : ℕ) (i : t.Initializer) → IsBelow (size_of i) (n.struct_shape m i)
struct_below m (t.value_initializer x) = tt
struct_below m (t.braced_initializer at is) = omega arith

pub shape_below : (a : CType) (i : t.Initializer) → IsBelow (size_of i) (n.shape a i)
shape_below (integer k) i = one_below i
shape_below (pointer c a) i = one_below i
shape_below (array e m) i = array_below e i (is_string_for (array e m) i)
shape_below (struct m) i = struct_below m i
shape_below void i = tt
shape_below (unsized e) i = tt
shape_below (function r ps) i = tt
