use Rattle.std.proofs.Common.{map, take}
use Rattle.im_typed.specs.ProgramOf.{object_of}
use Rattle.im_lower_relation.specs.Lowered.{AreObjects}
use Rattle.im_lower.proofs.functions.lower_objects.Given as goal

abbrev pub invariant-loop-object : goal.invariant-loop-object
invariant-loop-object l =
    AreObjects (map (object_of l.types) (take l.object-index l.objects)) l.found.items
