use Rattle.std.proofs.Common.{◌≡◌, drop}
use Rattle.im_ctree.specs.Shape.{init_declarators_of}
use Rattle.im_check_name_map.specs.im_rules.Outline as o
use Rattle.im_ctree_parts.specs.Lists.{list_from}
use Rattle.im_check_outline.specs.Walked.{walk_of}
use Rattle.im_check_outline.proofs.walk.with_declarators.Given as goal

abbrev pub invariant-loop-d : goal.invariant-loop-d
invariant-loop-d l =
    o.with_declarators (list_from l.specifiers) (init_declarators_of (drop l.d-index l.declarators)) (walk_of l.done)
    ≡ o.with_declarators (list_from l.specifiers) (init_declarators_of l.declarators) (walk_of l.fn.walk)
