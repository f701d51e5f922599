use Rattle.std.proofs.Common.{List, subst}
use Rattle.std.proofs.lemmas.Result.{err_from_is_err_and}
use Rattle.im_typed.specs.Programs.{called, calls_of}
use Rattle.im_typed.specs.Runs.{goes_on}
use Rattle.im_eval_store.specs.declared.value.Value.{Value}
use Rattle.im_eval_machine.specs.Settings.{setting_of}
use Rattle.im_eval_machine.specs.Shown.{shown_all}
use Rattle.im_eval_tasks.specs.Stack.{Valued}
use Rattle.im_eval_steps.specs.Going.{Goes, follows}
use Rattle.im_eval_steps.proofs.Paying.{paid_goes, unpaid}
use Rattle.im_eval_steps.proofs.call.call_function.Goals as goal

pub returns-in_err-pay-clause-goes : goal.returns-in_err-pay-clause-goes
returns-in_err-pay-clause-goes c =
    let p = err_from_is_err_and c.from_residual.result c.from_residual.ensures.1 in
    rw (p.1, p.2) (λ n ts s i le.
    unpaid c.args.code n c.args.here.now ts c.args.call s le c.requires.ready c.in_err-pay.field-0.0 c.pay.new.machine (c.in_err-pay.ensures.step.ends s i))

pub returns-clause-goes : goal.returns-clause-goes
returns-clause-goes c = λ n ts s i le.
    let code = c.args.code in
    let here = c.args.here.now in
    let inside = c.enter_function.new.here in
    let m = c.enter_function.new.machine in
    let paid = c.in_ok-pay.ensures.step.ends s i in
    let entered =
    subst (λ (xs : List Value). Goes code n inside ts c.enter_function.result m (goes_on (called (setting_of code) (calls_of (setting_of code) n) n c.args.call.function (shown_all xs) paid.0) (λ vs. follows code n here ts (Valued vs)))) c.deref.ensures.value (c.enter_function.ensures.goes n ts paid.0 paid.1) in
    paid_goes code n here ts c.args.call s le c.requires.ready inside c.enter_function.result m paid.0 paid.2 entered
