use Rattle.std.proofs.Common.{◌≡◌, [], drop, map}
use Rattle.im_check_name_map.specs.im_rules.Outline as o
use Rattle.im_check_outline.specs.Walked.{outlined_of}
use Rattle.im_check_outline.proofs.defined.statics_among.Given as goal

abbrev pub invariant-loop-item : goal.invariant-loop-item
invariant-loop-item l =
    o.objects_among (map outlined_of l.items) l.done (map outlined_of (drop l.item-index l.items)) ≡ o.objects_among (map outlined_of l.items) [] (map outlined_of l.items)
