use Rattle.std.proofs.Common.{subst, sym, ap}
use Rattle.std.proofs.lemmas.Result.{err_from_is_err_and}
use Rattle.im_store.specs.Access.{taken}
use Rattle.im_store.specs.Checks.{then_}
use Rattle.im_eval_store.specs.Shown.{Checks}
use Rattle.im_eval_machine.proofs.change.taken_at.Goals as goal

pub returns-in_err-value : goal.returns-in_err-value
returns-in_err-value c =
    let p = err_from_is_err_and c.from_residual.result c.from_residual.ensures.1 in
    rw (p.1, p.2) (λ last store h. ap (λ r. then_ r (taken store)) (c.in_err-value.ensures last store h))

pub returns : goal.returns
returns c = λ last store h.
    subst (Checks c.taken.result) (sym (ap (λ r. then_ r (taken store)) (c.in_ok-value.ensures last store h))) (c.taken.ensures last store h)
