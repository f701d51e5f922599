use Rattle.im_check_program.proofs.Growing.{ObjectsMade}
use Rattle.im_check_program.proofs.objects.typed_objects.Given as goal

abbrev pub invariant-loop-object : goal.invariant-loop-object
invariant-loop-object l = ObjectsMade l.fn.table l.table l.yielded l.done.items
