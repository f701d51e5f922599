use Rattle.std.proofs.Common.{refl}
use Rattle.std.proofs.lemmas.Result.{err_from_is_err_and}
use Rattle.im_store.specs.Pointers.{member_at}
use Rattle.im_typed.specs.Runs.{in_store}
use Rattle.im_eval_store.specs.Shown.{shown}
use Rattle.im_eval_tasks.specs.Stack.{Placed}
use Rattle.im_eval_tasks.specs.declared.steps.Next.TheVariants.{Just}
use Rattle.im_eval_tasks.specs.declared.steps.Now.TheVariants.{At}
use Rattle.im_eval_steps.specs.Going.{follows}
use Rattle.im_eval_steps.proofs.Going.{seen, unfound}
use Rattle.im_eval_steps.proofs.place.resume_member.Goals as goal

pub returns-in_err-member-clause-goes : goal.returns-in_err-member-clause-goes
returns-in_err-member-clause-goes c =
    let p = err_from_is_err_and c.from_residual.result c.from_residual.ensures.1 in
    rw (p.1, p.2) (λ n here ts s i.
    unfound shown c.in_err-member.field-0.0 c.args.machine.now s (in_store (λ store. member_at store c.args.offset (shown c.args.whole)) s) (λ v. follows c.args.code n here ts (Placed v)) (c.in_err-member.ensures.look s i))

pub returns-clause-goes : goal.returns-clause-goes
returns-clause-goes c = λ n here ts s i.
    let at = c.in_ok-member.field-0 in
    seen c.args.code n here ts shown at (Just (At at)) c.args.machine.now s (in_store (λ store. member_at store c.args.offset (shown c.args.whole)) s) (λ v. follows c.args.code n here ts (Placed v)) i (c.in_ok-member.ensures.look s i) refl
