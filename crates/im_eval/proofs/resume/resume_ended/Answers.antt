use Rattle.std.proofs.Common.{ap, sym, ◌==◌}
use Rattle.im_typed.specs.Programs.{call_result}
use Rattle.im_eval_machine.specs.Settings.{setting_of}
use Rattle.im_eval_tasks.specs.Found.{flow}
use Rattle.im_eval_tasks.specs.Stack.{Valued}
use Rattle.im_eval_tasks.specs.declared.steps.Next.TheVariants.{Just}
use Rattle.im_eval_tasks.specs.declared.steps.Now.TheVariants.{Value}
use Rattle.im_eval_steps.specs.Going.{follows, types_of}
use Rattle.im_eval.proofs.Leaving.{left}
use Rattle.im_eval.proofs.resume.resume_ended.Goals as goal

pub returns-in-Rest-clause-goes : goal.returns-in-Rest-clause-goes
returns-in-Rest-clause-goes c =
    let code = c.args.code in
    rw c.in-Rest.is (λ n ts s i. (s, i, sym (c.go_after.ensures (types_of code) (setting_of code) n c.args.here.now ts s)))

pub returns-in-Leave-clause-goes : goal.returns-in-Leave-clause-goes
returns-in-Leave-clause-goes c =
    let code = c.args.code in
    let caller = c.in-Leave.caller in
    let now = c.args.here.now in
    rw c.in-Leave.is (λ n ts s i.
    left code n c.leave_function.new.here caller.here ts now.activation caller.depth s c.leave_function.new.machine (Just (Value c.result_of.result)) (Valued (call_result (caller.function == code.prog.now.main) (flow c.args.ended))) c.leave_function.ensures.here
    (c.leave_function.ensures.left.ends s i) (λ t. ap (λ vs. follows code n caller.here ts (Valued vs) t) c.result_of.ensures))
