use Rattle.std.proofs.Common.{◌≡◌, ◌<◌, length, sym, ap, ◌∙◌, arith}
use Rattle.im_typed.specs.Program.{Argument, an_argument, Serve}
use Rattle.im_typed.specs.ProgramOf.{expr_of}
use Rattle.im_types.specs.Shape.{type_of}
use Rattle.im_check_conversions.specs.im_rules.Conversions.{argument_in, call_by}
use Rattle.im_check_conversions.specs.im_rules.Terms.{Value}
use Rattle.im_check_scopes.specs.declared.entity.Callee.{Callee}
use Rattle.im_check_scopes.specs.Shape.{callee_of}
use Rattle.im_check_name_forms.specs.Lists.{exprs_from}
use Rattle.im_check_name_forms.proofs.Rows.{given-first}
use Rattle.im_check_name_forms.proofs.calls.called.Goals as goal

pub returns-in_ok-operand-in-Service : goal.returns-in_ok-operand-in-Service
returns-in_ok-operand-in-Service c = λ types.
    let items = c.args.arguments.items in
    let es = exprs_from types items in
    let served : Argument → Value = λ a. record { type = type_of c.args.ty; expr = Serve c.in-Service.service a } in
    let by : Callee → Value = λ k. record { type = type_of c.args.ty; expr = call_by (callee_of k) es } in
    let some : 0 < length items = grind (arith, c.is_empty.ensures, c.if-is_empty.false) in
    let first : an_argument (expr_of types c.in_ok-operand-in-Service.operand.value) ≡ argument_in es =
    ap (λ e. an_argument (expr_of types e)) c.in_ok-operand-in-Service.ensures.ok
    ∙ ap an_argument (c.first_of.ensures types)
    ∙ sym (given-first types items some) in
    c.of_variable-in-Service.ensures types ∙ ap served first ∙ ap by (sym c.in-Service.is)
