use Rattle.std.proofs.Common.{ap, refl, subst, sym, List, Ok}
use Rattle.std.proofs.lemmas.Result.{err_from_is_err_and}
use Rattle.std.specs.Prelude.{pos}
use Rattle.im_typed.specs.Meaning.{served, Next as NextFlow}
use Rattle.im_typed.specs.Runs.{give, goes_on, with_fuel}
use Rattle.im_eval_store.specs.declared.value.Value.TheVariants.{Number}
use Rattle.im_eval_machine.specs.Shown.{number_shown}
use Rattle.im_eval_machine.specs.declared.found.Found.TheVariants.{One}
use Rattle.im_eval_tasks.specs.Found.{flow}
use Rattle.im_eval_tasks.specs.Stack.{Flowed, Valued, pending}
use Rattle.im_eval_tasks.specs.declared.steps.Next.TheVariants.{Just}
use Rattle.im_eval_tasks.specs.declared.steps.Now.TheVariants.{Value}
use Rattle.im_eval_tasks.specs.declared.tasks.Task.{Task}
use Rattle.im_eval_steps.specs.Going.{Goes, follows}
use Rattle.im_eval_steps.proofs.Going.{went}
use Rattle.im_eval.proofs.Pending.{taken}
use Rattle.im_eval.proofs.Turns.{not_paid, paid_for, turn_is}
use Rattle.im_eval.proofs.step.next_of.Goals as goal

pub returns-in-Arguments-clause-goes : goal.returns-in-Arguments-clause-goes
returns-in-Arguments-clause-goes c =
    rw c.in-Arguments.is (λ n s i le. c.next_argument.ensures.goes n (pending c.args.run.now.tasks.items) s i le)

pub returns-in_ok-number-in-Serve-clause-goes : goal.returns-in_ok-number-in-Serve-clause-goes
returns-in_ok-number-in-Serve-clause-goes c =
    let run = c.args.run.now in
    let ts = pending run.tasks.items in
    let number = c.in_ok-number-in-Serve.number in
    rw c.in-Serve.is (λ n s i le.
    went c.args.code n run.here ts number_shown number (Just (Value (One (Number number)))) c.serve.new.machine (with_fuel (served c.args.code.capacity c.in-Serve.service (pos 0)) s) (λ vs. follows c.args.code n run.here ts (Valued vs)) (c.in_ok-number-in-Serve.ensures.ends s i) (λ t. refl))

pub returns-in-Forget-clause-goes : goal.returns-in-Forget-clause-goes
returns-in-Forget-clause-goes c =
    let run = c.args.run.now in
    rw c.in-Forget.is (λ n s i le.
    let e = c.forget.ensures.ends s i in
    (e.0, e.1, ap (λ r. goes_on (goes_on r (λ _. give NextFlow)) (λ f. follows c.args.code n run.here (pending run.tasks.items) (Flowed f))) e.2))

pub returns-in-Pieces-clause-goes : goal.returns-in-Pieces-clause-goes
returns-in-Pieces-clause-goes c =
    rw c.in-Pieces.is (λ n s i le. c.next_piece.ensures.goes n (pending c.args.run.now.tasks.items) s i)

pub returns-in-Turn-clause-goes : goal.returns-in-Turn-clause-goes
returns-in-Turn-clause-goes c =
    let run = c.args.run.now in
    rw c.in-Turn.is (λ n s i le. (s, i, turn_is c.args.code n run.here (pending run.tasks.items) c.in-Turn.turns s le))

pub returns-in_err-pay-in-Enter-clause-goes : goal.returns-in_err-pay-in-Enter-clause-goes
returns-in_err-pay-in-Enter-clause-goes c =
    let p = err_from_is_err_and c.from_residual-in_err-pay-in-Enter.result c.from_residual-in_err-pay-in-Enter.ensures.1 in
    let run = c.args.run.now in
    rw (p.1, p.2, c.in-Enter.is) (λ n s i le.
    not_paid c.args.code n run.here (pending run.tasks.items) c.in-Enter.turns s c.in_err-pay-in-Enter.field-0.0 c.pay.new.machine (c.in_err-pay-in-Enter.ensures.step.ends s i))

pub returns-in_ok-pay-in-Enter-clause-goes : goal.returns-in_ok-pay-in-Enter-clause-goes
returns-in_ok-pay-in-Enter-clause-goes c =
    let run = c.args.run.now in
    rw c.in-Enter.is (λ n s i le.
    paid_for c.args.code n run.here (pending run.tasks.items) c.in-Enter.turns s (tt {0}) c.pay.new.machine c.deref.result c.deref.ensures (c.in_ok-pay-in-Enter.ensures.step.ends s i))

pub returns-in-Some-pop-2-clause-goes : goal.returns-in-Some-pop-2-clause-goes
returns-in-Some-pop-2-clause-goes c =
    let code = c.args.code in
    let run = c.args.run.now in
    let left = c.pop-in-Ended.new.self.items in
    let ended = flow c.in-Ended.ended in
    rw c.in-Ended.is (λ n s i le.
    subst (λ (ts : List Task). Goes code n c.resume_ended.new.here (pending left) (Ok c.resume_ended.result) c.resume_ended.new.machine (follows code n run.here ts (Flowed ended) s)) (sym (taken run.tasks.items left c.in-Some-pop-2.task c.in-Some-pop-2.ensures.items))
    (c.resume_ended.ensures.goes n (pending left) s i))

pub returns-in-Evaluate-clause-goes : goal.returns-in-Evaluate-clause-goes
returns-in-Evaluate-clause-goes c =
    rw c.in-Evaluate.is (λ n s i le. c.begin_tasks.ensures.goes n (pending c.args.run.now.tasks.items) s i)
