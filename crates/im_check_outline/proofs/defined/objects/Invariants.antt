use Rattle.std.proofs.Common.{◌≡◌, ◌++◌, drop, map}
use Rattle.im_check_outline.specs.Walked.{outlined_of, object_names}
use Rattle.im_check_outline.proofs.defined.objects.Given as goal

abbrev pub invariant-loop-item : goal.invariant-loop-item
invariant-loop-item l = l.done ++ object_names (map outlined_of (drop l.item-index l.items)) ≡ object_names (map outlined_of l.items)
