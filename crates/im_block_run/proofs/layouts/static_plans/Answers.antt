use Rattle.std.proofs.Common.{◌+◌, ◌<◌, List, [], ◌∷◌, ◌++◌, map, take, length, arith, subst, sym}
use Rattle.im_store.specs.Objects.{Shape, shape_of}
use Rattle.im_store.specs.Statics.{StaticObject}
use Rattle.im_block.specs.Meaning.{static_of}
use Rattle.im_eval_store.specs.declared.plan.Plan.{Plan}
use Rattle.im_eval_machine.specs.Settings.{ArePlans, static_shapes}
use Rattle.im_eval_machine.proofs.Rows.{taken-more}
use Rattle.im_eval_machine.proofs.Plans.{plans-more}
use Rattle.im_block_run.proofs.layouts.static_plans.Goals as goal

pub loop-one-preserved : goal.loop-one-preserved
loop-one-preserved c =
    let l = c.loop-one in
    let statics = c.args.statics.now in
    let x = c.one-item.result in
    let plan = c.in_ok-plan_of.field-0 in
    let within : l.one-index < length statics = omega arith in
    let shape : Shape = shape_of x.object.size x.object.cells.items in
    let more = plans-more (static_shapes (map static_of (take l.one-index statics))) l.plans.items shape plan l.invariant c.in_ok-plan_of.ensures in
    let same = taken-more {Y = StaticObject} static_of (λ o. shape_of o.size o.cells) statics l.one-index x within c.one-item.is in
    subst (λ (ps : List Plan). ArePlans (static_shapes (map static_of (take (l.one-index + 1) statics))) ps) (sym c.in_ok-push.ensures.items)
    (subst (λ (ss : List Shape). ArePlans ss (l.plans.items ++ plan ∷ [])) (sym same) more)
