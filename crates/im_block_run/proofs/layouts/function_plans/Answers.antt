use Rattle.std.proofs.Common.{◌+◌, ◌<◌, List, [], ◌∷◌, ◌++◌, take, length, arith, subst, sym}
use Rattle.std.specs.Prelude.{Vec}
use Rattle.std.specs.declared.alloc.Global.{Global}
use Rattle.im_block.specs.declared.unit.Function.{Function}
use Rattle.im_block.specs.declared.unit.Object.{Object}
use Rattle.im_eval_store.specs.declared.plan.Plan.{Plan}
use Rattle.im_eval_machine.specs.Settings.{ArePlans}
use Rattle.im_block_run.specs.Laid.{AreLayouts, object_shapes}
use Rattle.im_block_run.proofs.Rows.{layouts-more, taken}
use Rattle.im_block_run.proofs.layouts.function_plans.Goals as goal

pub loop-function-preserved : goal.loop-function-preserved
loop-function-preserved c =
    let l = c.loop-function in
    let functions = c.args.functions.now in
    let x = c.function-item.result in
    let within : l.function-index < length functions = omega arith in
    let plans = subst (λ (os : List Object). ArePlans (object_shapes os) c.in_ok-plans.plans.items) c.deref.ensures.value c.in_ok-plans.ensures in
    let more = layouts-more (take l.function-index functions) l.all.items x c.in_ok-plans.plans l.invariant plans in
    let same = taken functions l.function-index x within c.function-item.is in
    subst (λ (vs : List (Vec Plan Global)). AreLayouts (take (l.function-index + 1) functions) vs) (sym c.in_ok-push.ensures.items)
    (subst (λ (fs : List Function). AreLayouts fs (l.all.items ++ c.in_ok-plans.plans ∷ [])) (sym same) more)
