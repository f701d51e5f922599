use Rattle.std.proofs.Common.{map, take}
use Rattle.im_typed.specs.ProgramOf.{object_of}
use Rattle.im_eval_machine.specs.Settings.{ArePlans, local_shapes}
use Rattle.im_eval_machine.proofs.layouts.plans_of.Given as goal

abbrev pub invariant-loop-object : goal.invariant-loop-object
invariant-loop-object l =
    ArePlans (local_shapes (map (object_of l.types) (take l.object-index l.objects))) l.plans.items
