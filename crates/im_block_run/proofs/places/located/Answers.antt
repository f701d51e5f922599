use Rattle.std.proofs.Common.{sym, ap, subst}
use Rattle.std.proofs.lemmas.Result.{err_from_is_err_and}
use Rattle.im_store.specs.Checks.{Checked, then_}
use Rattle.im_store.specs.Objects as o
use Rattle.im_block.specs.Meaning as m
use Rattle.im_block_run.specs.Found.{Locates}
use Rattle.im_block_run.proofs.places.located.Goals as goal

pub returns-in_err-value : goal.returns-in_err-value
returns-in_err-value c =
    let p = err_from_is_err_and c.from_residual.result c.from_residual.ensures.1 in
    rw (p.1, p.2) (λ last store s h is. ap (λ (x : Checked o.Value). then_ x m.location_of) (c.in_err-value.ensures last store s h is))

pub returns : goal.returns
returns c = λ last store s h is.
    subst (λ (x : Checked o.Value). Locates c.spot_of.result (then_ x m.location_of)) (sym (c.in_ok-value.ensures last store s h is)) c.spot_of.ensures
