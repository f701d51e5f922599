use Rattle.std.proofs.Common.{◌≡◌, ◌++◌, drop}
use Rattle.im_pack.specs.Objects.{objects_at}
use Rattle.im_pack.proofs.objects.objects_of_statics.Given as goal

abbrev pub invariant-loop-i : goal.invariant-loop-i
invariant-loop-i l = l.objects.items ++ objects_at (drop l.i l.statics) (drop l.i l.addresses) ≡ objects_at l.statics l.addresses
