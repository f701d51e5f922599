use Rattle.std.proofs.Common.{◌∙◌, ap, map, List, ◌++◌}
use Rattle.im_typed.specs.Meaning.{value_of, values_of}
use Rattle.im_typed.specs.Runs.{Run, goes_on}
use Rattle.im_typed.specs.Values.{Values}
use Rattle.im_typed.specs.declared.expression.Expr.{Expr}
use Rattle.im_eval_store.specs.Shown.{shown}
use Rattle.im_eval_store.specs.declared.value.Value.{Value}
use Rattle.im_eval_machine.specs.Settings.{setting_of}
use Rattle.im_eval_tasks.specs.Stack.{Valued, in_activation}
use Rattle.im_eval_tasks.specs.Tasks.{expr_in, exprs_in}
use Rattle.im_eval_steps.specs.Going.{follows, types_of}
use Rattle.im_eval_steps.proofs.Arguments.{argument}
use Rattle.im_eval_steps.proofs.call.next_argument.Goals as goal

pub returns-in-Some-clause-goes : goal.returns-in-Some-clause-goes
returns-in-Some-clause-goes c = λ n ts s i le.
    let code = c.args.code in
    let types = types_of code in
    let around = in_activation types (setting_of code) n c.args.here.now in
    let f = c.args.call.function in
    let ready = map {A = Value} shown c.args.call.ready.items in
    let next : Values → Run Values = λ vs. follows code n c.args.here.now ts (Valued vs) in (
      s,
      i,
      ap (λ (es : List Expr). goes_on (goes_on (values_of around (exprs_in types es) s) (λ vs. around.calls f (ready ++ vs))) next) c.in-Some.ensures.cases.0
          ∙ argument ready (values_of around (exprs_in types c.in-Some.rest.now)) (λ vs. around.calls f vs) next (value_of around (expr_in types c.in-Some.first) s),
    )
