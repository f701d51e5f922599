use Rattle.std.proofs.Common.{arith}
use Rattle.im_eval_store.proofs.plan.Plan.new.Goals as goal

pub bounds-cells-left : goal.bounds-cells-left
bounds-cells-left c =
    let le = c.loop-left.invariant.0 in
    let some = c.loop-left-test.true in
    omega arith
