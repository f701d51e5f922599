use Rattle.std.proofs.Common.{refl, sym, subst}
use Rattle.im_typed.specs.Runs.{goes_on}
use Rattle.im_eval_machine.specs.Settings.{setting_of}
use Rattle.im_eval_machine.specs.Shown.{values}
use Rattle.im_eval_tasks.specs.Stack.{Valued, operand_goes}
use Rattle.im_eval_tasks.specs.declared.steps.Next.TheVariants.{Just}
use Rattle.im_eval_tasks.specs.declared.steps.Now.TheVariants.{Value}
use Rattle.im_eval_steps.specs.Going.{Goes, follows, types_of}
use Rattle.im_eval.proofs.Leaving.{left}
use Rattle.im_eval.proofs.resume.resume_value.Goals as goal

pub returns-in-Whole-clause-goes : goal.returns-in-Whole-clause-goes
returns-in-Whole-clause-goes c = rw c.in-Whole.is (λ n ts s i. c.resume_whole.ensures.goes n c.args.here.now ts s i)

pub returns-in-Use-clause-goes : goal.returns-in-Use-clause-goes
returns-in-Use-clause-goes c = rw c.in-Use.is (λ n ts s i. c.resume_use.ensures.goes n ts s i)

pub returns-in-Leave-clause-goes : goal.returns-in-Leave-clause-goes
returns-in-Leave-clause-goes c =
    let caller = c.in-Leave.caller in
    let now = c.args.here.now in
    rw c.in-Leave.is (λ n ts s i.
    left c.args.code n c.leave_function.new.here caller.here ts now.activation caller.depth s c.leave_function.new.machine (Just (Value c.args.found)) (Valued (values c.args.found)) c.leave_function.ensures.here
    (c.leave_function.ensures.left.ends s i) (λ t. refl))

pub returns-clause-goes : goal.returns-clause-goes
returns-clause-goes c =
    let code = c.args.code in
    let here = c.args.here.now in
    rw c.in-Operand.is (λ n ts s i.
    subst (λ r. Goes code n here ts c.resume_operand.result c.resume_operand.new.machine (goes_on r (operand_goes (types_of code) (setting_of code) n here c.in-Operand.operand (follows code n here ts)))) (sym (c.in_ok-value-in-Operand.ensures.look s i))
    (c.resume_operand.ensures.goes n here ts s i))
