use Rattle.std.proofs.lemmas.Result.{err_from_is_err_and}
use Rattle.im_check_locals.proofs.Reaching.{next, last, reached_none, reached_more, reached_fault, reached_all}
use Rattle.im_check_locals.proofs.declarations.locals.Goals as goal

pub loop-x-init : goal.loop-x-init
loop-x-init c = reached_none _ _ _ _

pub loop-x-preserved : goal.loop-x-preserved
loop-x-preserved c =
    let at = next c.args.declarators.now c.loop-x.x-index c.x-item.result c.loop-x-test.true c.x-item.is in
    rw c.in_ok-push.ensures.items (reached_more at c.loop-x.invariant (rw c.in_ok-each.ensures at c.in_ok-u.ensures))

pub returns-in_err-u : goal.returns-in_err-u
returns-in_err-u c =
    let p = err_from_is_err_and c.from_residual-in_err-u.result c.from_residual-in_err-u.ensures.1 in
    let at = next c.args.declarators.now c.loop-x.x-index c.x-item.result c.loop-x-test.true c.x-item.is in
    rw (p.1, p.2) (reached_fault _ at c.loop-x.invariant (rw c.in_ok-each.ensures at c.in_err-u.ensures))

pub returns : goal.returns
returns c = reached_all (last c.args.declarators.now c.loop-x.x-index c.loop-x-test.false) c.loop-x.invariant
