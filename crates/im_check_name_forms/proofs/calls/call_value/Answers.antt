use Rattle.std.proofs.Common.{◌≡◌, IfOk, subst}
use Rattle.im_ctype.specs.Types.{CType}
use Rattle.im_typed.specs.Program as p
use Rattle.im_check_conversions.specs.im_rules.Conversions.{call_by}
use Rattle.im_check_conversions.specs.im_rules.Terms.{Value}
use Rattle.im_check_scopes.specs.Shape.{callee_of}
use Rattle.im_check_operands.specs.Shape.{value_in}
use Rattle.im_check_name_forms.proofs.calls.call_value.Goals as goal

pub returns : goal.returns
returns c =
    let given : CType → p.Exprs → Value = λ a es. record { type = a; expr = call_by (callee_of c.args.callee) es } in
    λ constant. subst (λ (z : Value). IfOk c.called.result (λ v. value_in c.args.table.now v ≡ z)) (λ i. given (c.in_ok-ty.ensures i) (c.in_ok-exprs.ensures i)) (c.called.ensures c.args.table.now)
