use Rattle.std.proofs.Common.{◌+◌, ◌<◌, List, [], ◌∷◌, ◌++◌, map, take, length, arith, subst, sym}
use Rattle.im_store.specs.Objects.{Shape, shape_of}
use Rattle.im_ctype.specs.Table.{layout_of}
use Rattle.im_typed.specs.Program.{LocalObject}
use Rattle.im_typed.specs.ProgramOf.{object_of}
use Rattle.im_eval_store.specs.declared.plan.Plan.{Plan}
use Rattle.im_eval_machine.specs.Settings.{ArePlans, local_shapes}
use Rattle.im_eval_machine.proofs.Rows.{taken-more}
use Rattle.im_eval_machine.proofs.Plans.{plans-more}
use Rattle.im_eval_machine.proofs.layouts.plans_of.Goals as goal

pub loop-object-preserved : goal.loop-object-preserved
loop-object-preserved c =
    let l = c.loop-object in
    let types = c.args.types.now in
    let x = c.object-item.result in
    let one = c.in_ok-plan_of.field-0 in
    let within : l.object-index < length c.args.objects.now = omega arith in
    let shape : Shape = shape_of x.size (layout_of types x.ty).cells in
    let more = plans-more (local_shapes (map (object_of types) (take l.object-index c.args.objects.now))) l.plans.items shape one l.invariant c.in_ok-plan_of.ensures in
    let same = taken-more {Y = LocalObject} (object_of types) (λ o. shape_of o.size o.cells) c.args.objects.now l.object-index x within c.object-item.is in
    subst (λ (ps : List Plan). ArePlans (local_shapes (map (object_of types) (take (l.object-index + 1) c.args.objects.now))) ps) (sym c.in_ok-push.ensures.items)
    (subst (λ (ss : List Shape). ArePlans ss (l.plans.items ++ one ∷ [])) (sym same) more)
