use Rattle.im_check_declarators.proofs.Formals.{one_type_more}
use Rattle.im_check_declarators.proofs.functions.types.Goals as goal

pub loop-parameter-preserved : goal.loop-parameter-preserved
loop-parameter-preserved c =
    rw c.in_ok-push.ensures.items (one_type_more c.args.declared.now c.loop-parameter.parameter-index c.parameter-item.result c.loop-parameter.done.items c.in_ok-ty.ty c.loop-parameter-test.true c.parameter-item.is c.loop-parameter.invariant c.in_ok-ty.ensures)
