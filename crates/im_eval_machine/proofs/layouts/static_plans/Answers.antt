use Rattle.std.proofs.Common.{◌+◌, ◌<◌, List, [], ◌∷◌, ◌++◌, map, take, length, arith, subst, sym}
use Rattle.im_store.specs.Objects.{Shape, shape_of}
use Rattle.im_ctype.specs.Table.{layout_of}
use Rattle.im_store.specs.Statics.{StaticObject}
use Rattle.im_typed.specs.ProgramOf.{static_of}
use Rattle.im_eval_store.specs.declared.plan.Plan.{Plan}
use Rattle.im_eval_machine.specs.Settings.{ArePlans, static_shapes}
use Rattle.im_eval_machine.proofs.Rows.{taken-more}
use Rattle.im_eval_machine.proofs.Plans.{plans-more}
use Rattle.im_eval_machine.proofs.layouts.static_plans.Goals as goal

pub loop-variable-preserved : goal.loop-variable-preserved
loop-variable-preserved c =
    let l = c.loop-variable in
    let types = c.args.types.now in
    let x = c.variable-item.result in
    let one = c.in_ok-plan_of.field-0 in
    let within : l.variable-index < length c.args.statics.now = omega arith in
    let shape : Shape = shape_of x.object.size (layout_of types x.object.ty).cells in
    let more = plans-more (static_shapes (map (static_of types) (take l.variable-index c.args.statics.now))) l.plans.items shape one l.invariant c.in_ok-plan_of.ensures in
    let same = taken-more {Y = StaticObject} (static_of types) (λ o. shape_of o.size o.cells) c.args.statics.now l.variable-index x within c.variable-item.is in
    subst (λ (ps : List Plan). ArePlans (static_shapes (map (static_of types) (take (l.variable-index + 1) c.args.statics.now))) ps) (sym c.in_ok-push.ensures.items)
    (subst (λ (ss : List Shape). ArePlans ss (l.plans.items ++ one ∷ [])) (sym same) more)
