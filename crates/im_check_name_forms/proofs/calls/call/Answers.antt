use Rattle.std.proofs.Common.{ap, ◌∙◌}
use Rattle.im_types.specs.Shape.{type_of}
use Rattle.im_typed.specs.Program as p
use Rattle.im_check_conversions.specs.im_rules.Terms.{Value}
use Rattle.im_check_name_forms.proofs.Rows.{call-of}
use Rattle.im_check_name_forms.proofs.calls.call.Goals as goal

pub returns : goal.returns
returns c = λ types.
    let of_type : p.Expr → Value = λ e. record { type = type_of c.args.ty; expr = e } in
    c.of_variable.ensures types ∙ ap of_type (call-of types c.args.function c.args.arguments)
