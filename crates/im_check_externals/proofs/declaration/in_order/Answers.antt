use Rattle.std.proofs.lemmas.Result.{err_from_is_err_and}
use Rattle.std.proofs.lemmas.List.{drop_all}
use Rattle.im_check_file_specifiers.proofs.Constants.{next}
use Rattle.im_check_externals.proofs.Declared.{passed_none, passed_more, passed_fault, passed_all}
use Rattle.im_check_externals.proofs.declaration.in_order.Goals as goal

pub loop-x-init : goal.loop-x-init
loop-x-init c = passed_none _ _ _ _ _

pub loop-x-preserved : goal.loop-x-preserved
loop-x-preserved c =
    let at = next c.args.declarators.now c.loop-x.x-index c.x-item.result c.loop-x-test.true c.x-item.is in
    passed_more _ _ _ at c.loop-x.invariant c.in_ok-one.ensures

pub returns-in_err-one : goal.returns-in_err-one
returns-in_err-one c =
    let p = err_from_is_err_and c.from_residual.result c.from_residual.ensures.1 in
    let at = next c.args.declarators.now c.loop-x.x-index c.x-item.result c.loop-x-test.true c.x-item.is in
    rw (p.1, p.2) (passed_fault _ _ _ at c.loop-x.invariant c.in_err-one.ensures)

pub returns : goal.returns
returns c = passed_all _ _ (drop_all c.loop-x.x-index c.args.declarators.now c.loop-x-test.false) c.loop-x.invariant
