use Rattle.std.proofs.Common.{subst, sym}
use Rattle.im_eval_tasks.specs.Stack.{pending}
use Rattle.im_eval_steps.specs.Going.{Goes}
use Rattle.im_eval.proofs.at_once.hasten.Goals as goal

pub returns-in-Just-clause-goes : goal.returns-in-Just-clause-goes
returns-in-Just-clause-goes c =
    let run = c.args.run.now in
    let ts = pending run.tasks.items in
    rw c.in-Just.is (λ n r e.
    subst (Goes c.args.code n run.here ts c.hasten_now.result run.machine) (sym e.2) (c.hasten_now.ensures.goes n ts e.0 e.1))

pub returns-in-Before-clause-goes : goal.returns-in-Before-clause-goes
returns-in-Before-clause-goes c =
    let ts = pending c.args.run.now.tasks.items in
    rw c.in-Before.is (λ n r e.
    subst (Goes c.args.code n c.hasten_before.new.here ts c.hasten_before.result c.hasten_before.new.machine) (sym e.2) (c.hasten_before.ensures.goes n ts e.0 e.1))
