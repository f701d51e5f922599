use Rattle.std.proofs.Common.{◌≡◌, ◌+◌, ◌<◌, List, [], ◌∷◌, ◌++◌, map, take, length, arith, subst, sym}
use Rattle.im_typed.specs.Program.{LocalObject}
use Rattle.im_typed.specs.ProgramOf.{object_of}
use Rattle.im_block.specs.declared.unit.Object.{Object}
use Rattle.im_lower_relation.specs.Lowered.{AreObjects}
use Rattle.im_lower.proofs.Taken.{taken_more, objects_more}
use Rattle.im_lower.proofs.functions.lower_objects.Goals as goal

pub loop-object-preserved : goal.loop-object-preserved
loop-object-preserved c =
    let l = c.loop-object in
    let types = c.args.types.now in
    let x = c.object-item.result in
    let one = c.in_ok-lower_object.field-0 in
    let within : l.object-index < length c.args.objects.now = omega arith in
    let more = objects_more (map (object_of types) (take l.object-index c.args.objects.now)) l.found.items (object_of types x) one l.invariant c.in_ok-lower_object.ensures.size c.in_ok-lower_object.ensures.cells in
    let same = taken_more (object_of types) c.args.objects.now l.object-index x within c.object-item.is in
    subst (λ (os : List Object). AreObjects (map (object_of types) (take (l.object-index + 1) c.args.objects.now)) os) (sym c.in_ok-push.ensures.items)
    (subst (λ (xs : List LocalObject). AreObjects xs (l.found.items ++ one ∷ [])) (sym same) more)
