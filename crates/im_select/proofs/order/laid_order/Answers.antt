use Rattle.im_select.specs.Emitted.{laid_order}
use Rattle.im_select.proofs.Ordering.{kept_whole, taken_whole}
use Rattle.im_select.proofs.order.laid_order.Goals as goal

pub loop-number-preserved-in-Continue-branch-2 : goal.loop-number-preserved-in-Continue-branch-2
loop-number-preserved-in-Continue-branch-2 c =
    taken_whole c.args.entry c.loop-number.number c.loop-number.order.items c.push-then-number-entry.new.self.items (laid_order c.args.entry c.args.count) c.loop-number-test.true c.if-number-entry.true c.in_ok-push-2.ensures.items c.loop-number.invariant

pub loop-number-preserved : goal.loop-number-preserved
loop-number-preserved c = kept_whole c.args.entry c.loop-number.number c.loop-number.order.items (laid_order c.args.entry c.args.count) c.loop-number-test.true c.if-number-entry.false c.loop-number.invariant
