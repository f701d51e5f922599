use Rattle.std.proofs.Common.{subst, sym, ◌∷◌, Ok}
use Rattle.std.proofs.lemmas.Result.{err_from_is_err_and}
use Rattle.im_eval_machine.specs.Settings.{setting_of}
use Rattle.im_eval_tasks.specs.Stack.{runs}
use Rattle.im_eval_tasks.specs.declared.steps.Now.TheVariants.{Locate}
use Rattle.im_eval_tasks.specs.declared.tasks.Task.TheVariants.{At}
use Rattle.im_eval_steps.specs.Going.{Goes, types_of}
use Rattle.im_eval.specs.Ahead.{LooksAhead, placed}
use Rattle.im_eval.proofs.at_once.do_at.Goals as goal

pub returns-in_err-found-clause-goes : goal.returns-in_err-found-clause-goes
returns-in_err-found-clause-goes c =
    let p = err_from_is_err_and c.from_residual.result c.from_residual.ensures.1 in
    rw (p.1, p.2) (λ n ts s i. c.in_err-found.ensures.ahead c.args.code n (At c.args.at ∷ ts) s i)

pub returns-in-Some-clause-goes : goal.returns-in-Some-clause-goes
returns-in-Some-clause-goes c = λ n ts s i.
    let code = c.args.code in
    let here = c.args.here in
    let all = At c.args.at ∷ ts in
    let ahead = subst (λ v. LooksAhead placed code n here all (Ok v) c.args.machine.now s (runs (types_of code) (setting_of code) n here all (Locate c.args.place) s)) c.in-Some.is (c.in_ok-found.ensures.ahead code n all s i) in
    subst (Goes code n here ts c.resume_at.result c.resume_at.new.machine) (sym ahead)
    (c.resume_at.ensures.goes n here ts s i)
