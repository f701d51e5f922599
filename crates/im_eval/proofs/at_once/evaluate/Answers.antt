use Rattle.std.proofs.Common.{subst, Ok}
use Rattle.std.proofs.lemmas.Result.{err_from_is_err_and}
use Rattle.im_eval_machine.specs.Settings.{setting_of}
use Rattle.im_eval_tasks.specs.Stack.{runs}
use Rattle.im_eval_tasks.specs.declared.steps.Now.TheVariants.{Evaluate}
use Rattle.im_eval_steps.specs.Going.{types_of}
use Rattle.im_eval.specs.Ahead.{LooksAhead, valued}
use Rattle.im_eval.proofs.at_once.evaluate.Goals as goal

pub returns-in_err-value-clause-goes : goal.returns-in_err-value-clause-goes
returns-in_err-value-clause-goes c =
    let p = err_from_is_err_and c.from_residual.result c.from_residual.ensures.1 in
    rw (p.1, p.2) (λ n ts s i. c.in_err-value.ensures.ahead c.args.code n ts s i)

pub returns-in-Some-clause-goes : goal.returns-in-Some-clause-goes
returns-in-Some-clause-goes c = λ n ts s i.
    let code = c.args.code in
    let here = c.args.here in (
      s,
      i,
      subst (λ v. LooksAhead valued code n here ts (Ok v) c.args.machine.now s (runs (types_of code) (setting_of code) n here ts (Evaluate c.args.expr) s)) c.in-Some.is
          (c.in_ok-value.ensures.ahead code n ts s i),
    )
