use Rattle.std.proofs.Common.{◌≡◌, drop}
use Rattle.im_check_defined.specs.Functions.{all_complete}
use Rattle.im_check_defined.proofs.function.are_complete.Given as goal

abbrev pub invariant-loop-object : goal.invariant-loop-object
invariant-loop-object l = all_complete l.known l.objects ≡ all_complete l.known (drop l.object-index l.objects)
