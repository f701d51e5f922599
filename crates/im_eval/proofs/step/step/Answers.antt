use Rattle.std.proofs.Common.{subst, sym}
use Rattle.std.proofs.lemmas.Result.{err_from_is_err_and}
use Rattle.im_eval_machine.specs.Settings.{setting_of}
use Rattle.im_eval_tasks.specs.Stack.{pending, runs}
use Rattle.im_eval_steps.specs.Going.{GoesNow, types_of}
use Rattle.im_eval.proofs.step.step.Goals as goal

pub returns-in_err-hastened-clause-goes : goal.returns-in_err-hastened-clause-goes
returns-in_err-hastened-clause-goes c =
    let p = err_from_is_err_and c.from_residual-in_err-hastened.result c.from_residual-in_err-hastened.ensures.1 in
    let code = c.args.code in
    let run = c.args.run.now in
    rw (p.1, p.2) (λ n s i le.
    c.in_err-hastened.ensures.goes n (runs (types_of code) (setting_of code) n run.here (pending run.tasks.items) c.args.now s) (c.in_ok-next.ensures.goes n s i le))

pub returns-clause-goes : goal.returns-clause-goes
returns-clause-goes c = λ n s i le.
    let code = c.args.code in
    let run = c.args.run.now in
    let r = runs (types_of code) (setting_of code) n run.here (pending run.tasks.items) c.args.now s in
    subst (λ m. GoesNow code n c.push_next.new.run.here (pending c.push_next.new.run.tasks.items) c.push_next.result m r) (sym c.push_next.ensures.machine)
    (c.push_next.ensures.goes code n c.hasten.new.run.machine r (c.in_ok-hastened.ensures.goes n r (c.in_ok-next.ensures.goes n s i le)))
