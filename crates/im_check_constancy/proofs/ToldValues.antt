-- What is told of an expression gives its value as a constant expression, and what is told of an operator on it.
use Rattle.std.proofs.Common.{◌≡◌, Option, None, sym, ap, ◌∙◌}
use Rattle.std.specs.Prelude.{ℤ, if◌then◌else◌}
use Rattle.im_typed.specs.Program.{Expr}
use Rattle.im_rules.specs.Constants.{constant_value, evaluated, is_constant, on_one}
use Rattle.im_check_constancy.specs.declared.constancy.Constancy.{Constancy}
use Rattle.im_check_constancy.specs.Told.{Told, constant_in, number_in}

pub told-value : (k : Constancy) (e : Expr) → Told k e → constant_value e ≡ constant_in k
told-value k e h =
    ap (λ b. if b then evaluated e else None) h.0
    ∙ ap (λ o. if k.is_constant then o else None) h.1

pub told-one : (f : ℤ → ℤ) (k : Constancy) (e x : Expr) (v : Option ℤ) → e ≡ x → Told k x → v ≡ on_one f (number_in k.value) → (is_constant e ≡ k.is_constant) × (on_one f (evaluated e) ≡ v)
told-one f k e x v is h eq =
    (ap is_constant is ∙ h.0, ap (λ y. on_one f (evaluated y)) is ∙ ap (on_one f) h.1 ∙ sym eq)
