use Rattle.im_check_place.proofs.Added.{next, entering_more}
use Rattle.im_check_place.proofs.entered.entered.Goals as goal

pub loop-field-preserved : goal.loop-field-preserved
loop-field-preserved c =
    let at = next c.args.fields.now c.loop-field.field-index c.field-item.result c.loop-field-test.true c.field-item.is in
    rw c.in_ok-push.ensures.items (entering_more c.loop-field.members.items c.in_ok-member.member at c.loop-field.invariant c.in_ok-member.ensures.member c.in_ok-member.ensures.grown)
