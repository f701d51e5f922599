use Rattle.std.proofs.Common.{◌+◌, ◌<◌, List, [], ◌∷◌, ◌++◌, take, length, arith, subst, sym}
use Rattle.im_store.specs.Objects.{Shape, shape_of}
use Rattle.im_block.specs.declared.unit.Object.{Object}
use Rattle.im_eval_store.specs.declared.plan.Plan.{Plan}
use Rattle.im_eval_machine.specs.Settings.{ArePlans}
use Rattle.im_eval_machine.proofs.Rows.{taken-one}
use Rattle.im_eval_machine.proofs.Plans.{plans-more}
use Rattle.im_block_run.specs.Laid.{object_shapes}
use Rattle.im_block_run.proofs.layouts.plans_of.Goals as goal

pub loop-object-preserved : goal.loop-object-preserved
loop-object-preserved c =
    let l = c.loop-object in
    let objects = c.args.objects.now in
    let x = c.object-item.result in
    let one = c.in_ok-plan_of.field-0 in
    let within : l.object-index < length objects = omega arith in
    let shape : Shape = shape_of x.size x.cells.items in
    let more = plans-more (object_shapes (take l.object-index objects)) l.plans.items shape one l.invariant c.in_ok-plan_of.ensures in
    let same = taken-one {X = Object} (λ o. shape_of o.size o.cells.items) objects l.object-index x within c.object-item.is in
    subst (λ (ps : List Plan). ArePlans (object_shapes (take (l.object-index + 1) objects)) ps) (sym c.in_ok-push.ensures.items)
    (subst (λ (ss : List Shape). ArePlans ss (l.plans.items ++ one ∷ [])) (sym same) more)
