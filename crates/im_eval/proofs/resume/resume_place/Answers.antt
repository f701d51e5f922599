use Rattle.std.proofs.Common.{refl}
use Rattle.im_eval_store.specs.Shown.{shown}
use Rattle.im_eval_tasks.specs.Stack.{Placed}
use Rattle.im_eval_tasks.specs.declared.steps.Next.TheVariants.{Just}
use Rattle.im_eval_tasks.specs.declared.steps.Now.TheVariants.{At}
use Rattle.im_eval.proofs.Leaving.{left}
use Rattle.im_eval.proofs.resume.resume_place.Goals as goal

pub returns-in-At-clause-goes : goal.returns-in-At-clause-goes
returns-in-At-clause-goes c = rw c.in-At.is (λ n ts s i. c.resume_at.ensures.goes n c.args.here.now ts s i)

pub returns-in-Member-clause-goes : goal.returns-in-Member-clause-goes
returns-in-Member-clause-goes c = rw c.in-Member.is (λ n ts s i. c.resume_member.ensures.goes n c.args.here.now ts s i)

pub returns-in-Leave-clause-goes : goal.returns-in-Leave-clause-goes
returns-in-Leave-clause-goes c =
    let caller = c.in-Leave.caller in
    let now = c.args.here.now in
    rw c.in-Leave.is (λ n ts s i.
    left c.args.code n c.leave_function.new.here caller.here ts now.activation caller.depth s c.leave_function.new.machine (Just (At c.args.place)) (Placed (shown c.args.place)) c.leave_function.ensures.here
    (c.leave_function.ensures.left.ends s i) (λ t. refl))
