use Rattle.im_check_program.proofs.Growing.{objects_none, objects_more}
use Rattle.im_check_program.proofs.objects.typed_objects.Goals as goal

pub loop-object-init : goal.loop-object-init
loop-object-init c = rw c.new-done.ensures.items (objects_none c.args.table.now)

pub loop-object-preserved : goal.loop-object-preserved
loop-object-preserved c =
    rw c.in_ok-push.ensures.items (objects_more c.in-Some.object c.loop-object.done.items c.in_ok-one.one c.loop-object.invariant c.in_ok-one.ensures.object c.in_ok-one.ensures.grown)
