-- Constant expressions (C11 6.6), told by the typed expression: what `sizeof` measures is gone from it, an enumeration
-- constant is a number there, and the operators are those of the meaning.
use Rattle.std.specs.Prelude.{ℤ, pos, Bool, true, false, not, ◌&&◌, Option, Some, None, if◌then◌else◌}
use Rattle.std.specs.Ordering.{int_eq}
use Rattle.im_ctree.specs.im_num.Kinds.{wrap}
use Rattle.im_typed.specs.im_store.Checks.{Checked, Fine, Bad}
use Rattle.im_typed.specs.im_store.Numbers.{apply, apply_one, compares}
use Rattle.im_typed.specs.Program.{Expr, Constant, Convert, Unary, Binary, Compare, Not, And, Or, Choose}

-- no object, call, assignment, `++`, `--`, `,`, `[]`, `*`, `&` or string stands in it
abbrev pub is_constant : Expr → Bool
is_constant (Constant k z) = true
is_constant (Convert k a) = is_constant a
is_constant (Unary op k a) = is_constant a
is_constant (Binary op k a b) = is_constant a && is_constant b
is_constant (Compare op k a b) = is_constant a && is_constant b
is_constant (Not a) = is_constant a
is_constant (And a b) = is_constant a && is_constant b
is_constant (Or a b) = is_constant a && is_constant b
is_constant (Choose c a b) = is_constant c && (is_constant a && is_constant b)
is_constant _ = false

abbrev pub truth : Bool → ℤ
truth b = if b then pos 1 else pos 0

abbrev pub is_true : ℤ → Bool
is_true z = not (int_eq z (pos 0))

-- a value, unless a cause of undefined behaviour is met
abbrev pub defined : Checked ℤ → Option ℤ
defined (Fine z) = Some z
defined (Bad why) = None

abbrev pub on_one : (ℤ → ℤ) → Option ℤ → Option ℤ
on_one f None = None
on_one f (Some a) = Some (f a)

abbrev pub on_both : (ℤ → ℤ → Option ℤ) → Option ℤ → Option ℤ → Option ℤ
on_both f None b = None
on_both f (Some a) None = None
on_both f (Some a) (Some b) = f a b

abbrev pub as_truth : Option ℤ → Option ℤ
as_truth a = on_one (λ z. truth (is_true z)) a

-- the right operand is evaluated only where the left one doesn't settle it (C11 6.5.13p4, 6.5.14p4)
abbrev pub and_then : Option ℤ → Option ℤ → Option ℤ
and_then None b = None
and_then (Some a) b = if is_true a then as_truth b else Some (pos 0)

abbrev pub or_else : Option ℤ → Option ℤ → Option ℤ
or_else None b = None
or_else (Some a) b = if is_true a then Some (pos 1) else as_truth b

abbrev pub picked : Option ℤ → Option ℤ → Option ℤ → Option ℤ
picked None a b = None
picked (Some c) a b = if is_true c then a else b

-- the value of such an expression
abbrev pub evaluated : Expr → Option ℤ
evaluated (Constant k z) = Some z
evaluated (Convert k a) = on_one (wrap k) (evaluated a)
evaluated (Unary op k a) = on_one (apply_one op k) (evaluated a)
evaluated (Binary op k a b) = on_both (λ x y. defined (apply op k x y)) (evaluated a) (evaluated b)
evaluated (Compare op k a b) = on_both (λ x y. Some (truth (compares op x y))) (evaluated a) (evaluated b)
evaluated (Not a) = on_one (λ z. truth (int_eq z (pos 0))) (evaluated a)
evaluated (And a b) = and_then (evaluated a) (evaluated b)
evaluated (Or a b) = or_else (evaluated a) (evaluated b)
evaluated (Choose c a b) = picked (evaluated c) (evaluated a) (evaluated b)
evaluated _ = None

-- the value of a constant expression; none of what is no constant expression
abbrev pub constant_value : Expr → Option ℤ
constant_value e = if is_constant e then evaluated e else None
