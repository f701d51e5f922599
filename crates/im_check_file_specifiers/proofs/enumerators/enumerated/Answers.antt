use Rattle.std.proofs.lemmas.Result.{err_from_is_err_and}
use Rattle.std.proofs.lemmas.List.{drop_all}
use Rattle.im_check_file_specifiers.proofs.Constants.{next, reached_none, reached_more, reached_fault, reached_all}
use Rattle.im_check_file_specifiers.proofs.enumerators.enumerated.Goals as goal

pub loop-e-init : goal.loop-e-init
loop-e-init c = rw c.zero-next.ensures (reached_none _ _)

pub loop-e-preserved : goal.loop-e-preserved
loop-e-preserved c =
    let at = next c.args.enumerators.now c.loop-e.e-index c.e-item.result c.loop-e-test.true c.e-item.is in
    reached_more _ _ at c.loop-e.invariant c.in_ok-next.ensures

pub returns-in_err-next : goal.returns-in_err-next
returns-in_err-next c =
    let p = err_from_is_err_and c.from_residual.result c.from_residual.ensures.1 in
    let at = next c.args.enumerators.now c.loop-e.e-index c.e-item.result c.loop-e-test.true c.e-item.is in
    rw (p.1, p.2) (reached_fault _ _ at c.loop-e.invariant c.in_err-next.ensures)

pub returns : goal.returns
returns c = reached_all _ (drop_all c.loop-e.e-index c.args.enumerators.now c.loop-e-test.false) c.loop-e.invariant
