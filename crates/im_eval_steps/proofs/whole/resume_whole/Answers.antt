use Rattle.std.proofs.Common.{refl}
use Rattle.std.proofs.lemmas.Result.{err_from_is_err_and}
use Rattle.im_typed.specs.ProgramOf.{access_of}
use Rattle.im_typed.specs.Values.{used, write_at}
use Rattle.im_eval_store.specs.Shown.{shown}
use Rattle.im_eval_machine.specs.Shown.{values}
use Rattle.im_eval_machine.proofs.Steps.{halts-on}
use Rattle.im_eval_tasks.specs.Stack.{Valued}
use Rattle.im_eval_tasks.specs.declared.steps.Next.TheVariants.{Just}
use Rattle.im_eval_tasks.specs.declared.steps.Now.TheVariants.{Value}
use Rattle.im_eval_steps.specs.Going.{follows, types_of}
use Rattle.im_eval_steps.proofs.Going.{unfound}
use Rattle.im_eval_steps.proofs.Using.{then-stops, then-goes}
use Rattle.im_eval_steps.proofs.whole.resume_whole.Goals as goal

pub returns-in_err-part-in-Part-clause-goes : goal.returns-in_err-part-in-Part-clause-goes
returns-in_err-part-in-Part-clause-goes c =
    let p = err_from_is_err_and c.from_residual.result c.from_residual.ensures.1 in
    rw (p.1, p.2) (λ n here ts s i. tt)

pub returns-in_err-used-in-Store-clause-goes : goal.returns-in_err-used-in-Store-clause-goes
returns-in_err-used-in-Store-clause-goes c =
    let p = err_from_is_err_and c.from_residual-in_err-used-in-Store.result c.from_residual-in_err-used-in-Store.ensures.1 in
    let code = c.args.code in
    let vs = values c.args.found in
    rw (p.1, p.2, c.in-Store.is) (λ n here ts s i.
    halts-on c.in_err-used-in-Store.field-0.0 c.args.machine.now _ (λ ws. follows code n here ts (Valued ws))
    (unfound shown c.in_err-used-in-Store.field-0.0 c.args.machine.now s (used vs s) (λ _. write_at (access_of (types_of code) c.in-Store.access) (shown c.in-Store.place) vs) (c.in_err-used-in-Store.ensures.look s i)))

pub returns-in_err-write_at-in-Store-clause-goes : goal.returns-in_err-write_at-in-Store-clause-goes
returns-in_err-write_at-in-Store-clause-goes c =
    let p = err_from_is_err_and c.from_residual-in_err-write_at-in-Store.result c.from_residual-in_err-write_at-in-Store.ensures.1 in
    let code = c.args.code in
    let vs = values c.args.found in
    rw (p.1, p.2, c.in-Store.is) (λ n here ts s i.
    then-stops vs c.in_ok-used-in-Store.field-0 s (write_at (access_of (types_of code) c.in-Store.access) (shown c.in-Store.place) vs) (λ ws. follows code n here ts (Valued ws))
    c.in_err-write_at-in-Store.field-0.0 c.write_at.new.machine (c.in_ok-used-in-Store.ensures.look s i) (c.in_err-write_at-in-Store.ensures.step.ends s i))

pub returns-clause-goes : goal.returns-clause-goes
returns-clause-goes c =
    let code = c.args.code in
    let vs = values c.args.found in
    rw c.in-Store.is (λ n here ts s i.
    then-goes code n here ts vs c.in_ok-used-in-Store.field-0 s (write_at (access_of (types_of code) c.in-Store.access) (shown c.in-Store.place) vs) (λ ws. follows code n here ts (Valued ws))
    vs (Just (Value c.args.found)) c.write_at.new.machine (c.in_ok-used-in-Store.ensures.look s i) (c.in_ok-write_at-in-Store.ensures.step.ends s i) (λ t. refl))

pub returns-in-Comma-clause-goes : goal.returns-in-Comma-clause-goes
returns-in-Comma-clause-goes c = rw (c.deref.ensures, c.in-Comma.is) (λ n here ts s i. (s, i, refl))
