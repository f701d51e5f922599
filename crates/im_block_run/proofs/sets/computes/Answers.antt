use Rattle.std.proofs.Common.{subst}
use Rattle.std.proofs.lemmas.Result.{err_from_is_err_and}
use Rattle.std.specs.Prelude.{Result}
use Rattle.im_store.specs.declared.undefined.Undefined.{Undefined}
use Rattle.im_eval_store.specs.declared.value.Value.{Value}
use Rattle.im_eval_store.specs.Shown.{Checks, shown}
use Rattle.im_block_run.proofs.Steps.{computes-bad, computes-fine}
use Rattle.im_block_run.proofs.sets.computes.Goals as goal

pub returns-in_err-value : goal.returns-in_err-value
returns-in_err-value c =
    let p = err_from_is_err_and c.from_residual.result c.from_residual.ensures.1 in
    rw (p.1, p.2) (λ u x s h e.
    computes-bad u c.args.state.now s c.args.to c.in_err-value.field-0.0 x (subst (λ (r : Result Value Undefined). Checks r x) c.in_err-value.was e))

pub returns : goal.returns
returns c = λ u x s h e.
    computes-fine c.args.state.now s h c.set.new.self c.args.to (shown c.in_ok-value.value) x (subst (λ (r : Result Value Undefined). Checks r x) c.in_ok-value.was e) (c.in_ok-set.ensures s.frame h.running.frame)
