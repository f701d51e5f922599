use Rattle.im_check_file_functions.proofs.Entering.{next}
use Rattle.im_check_file_functions.proofs.Counted.{have_none, have_more, have_all}
use Rattle.im_check_file_functions.proofs.objects.locals.Goals as goal

pub loop-formal-init : goal.loop-formal-init
loop-formal-init c = have_none c.args.formals.now _ c.new-done.ensures.items

pub loop-formal-preserved : goal.loop-formal-preserved
loop-formal-preserved c =
    let at = next c.args.formals.now c.loop-formal.formal-index c.formal-item.result c.loop-formal-test.true c.formal-item.is in
    rw c.in_ok-push.ensures.items (have_more c.args.formals.now c.loop-formal.formal-index _ c.in_ok-one.one at c.loop-formal.invariant c.in_ok-one.ensures)

pub returns : goal.returns
returns c = have_all c.args.formals.now _ c.loop-formal-test.false c.loop-formal.invariant
