use Rattle.std.proofs.lemmas.Result.{err_from_is_err_and}
use Rattle.std.proofs.lemmas.List.{drop_all}
use Rattle.im_check_file_specifiers.proofs.Constants.{next}
use Rattle.im_check_file_declarations.proofs.Declarators.{declarators_none, declarators_more, declarators_fault, declarators_all}
use Rattle.im_check_file_declarations.proofs.declarations.declared.Goals as goal

pub loop-x-init : goal.loop-x-init
loop-x-init c = declarators_none _ _ _ _ _

pub loop-x-preserved : goal.loop-x-preserved
loop-x-preserved c =
    let at = next c.args.declarators.now c.loop-x.x-index c.x-item.result c.loop-x-test.true c.x-item.is in
    declarators_more _ _ _ at c.loop-x.invariant c.in_ok-one_declared.ensures

pub returns-in_err-one_declared : goal.returns-in_err-one_declared
returns-in_err-one_declared c =
    let p = err_from_is_err_and c.from_residual.result c.from_residual.ensures.1 in
    let at = next c.args.declarators.now c.loop-x.x-index c.x-item.result c.loop-x-test.true c.x-item.is in
    rw (p.1, p.2) (declarators_fault _ _ _ at c.loop-x.invariant c.in_err-one_declared.ensures)

pub returns : goal.returns
returns c = declarators_all _ _ (drop_all c.loop-x.x-index c.args.declarators.now c.loop-x-test.false) c.loop-x.invariant
