-- What the code keeps of an expression as a constant expression.
use Rattle.std.specs.Prelude.{◌≡◌, false, ℤ, pos, Option, Some, None, if◌then◌else◌}
use Rattle.std.specs.Ordering.{int_eq}
use Rattle.im_store.specs.declared.number.Number.{Number}
use Rattle.im_store.specs.declared.operators.Comparison.{Comparison}
use Rattle.im_store.specs.Numbers.{compares}
use Rattle.im_typed.specs.Program.{Expr}
use Rattle.im_rules.specs.Constants.{is_constant, evaluated, truth}
use Rattle.im_check_constancy.specs.declared.constancy.Constancy.{Constancy}

abbrev pub number_in : Option Number → Option ℤ
number_in None = None
number_in (Some z) = Some z.value

abbrev pub negated : ℤ → ℤ
negated z = truth (int_eq z (pos 0))

abbrev pub compared_as : Comparison → ℤ → ℤ → Option ℤ
compared_as op x y = Some (truth (compares op x y))

-- whether it is a constant expression, and what evaluating it gives
abbrev pub Told : Constancy → Expr → Type 0
Told k e = (is_constant e ≡ k.is_constant) × (evaluated e ≡ number_in k.value)

-- the value of a constant expression
abbrev pub constant_in : Constancy → Option ℤ
constant_in k = if k.is_constant then number_in k.value else None

-- what isn't a constant expression has no value as one
abbrev pub variable : Constancy
variable = record { is_constant = false; value = None }
