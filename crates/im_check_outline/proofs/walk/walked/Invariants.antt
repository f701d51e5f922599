use Rattle.std.proofs.Common.{◌≡◌, [], drop}
use Rattle.im_ctree.specs.Shape.{externals_of}
use Rattle.im_check_name_map.specs.im_rules.Outline as o
use Rattle.im_check_outline.specs.Walked.{walk_of}
use Rattle.im_check_outline.proofs.walk.walked.Given as goal

abbrev pub invariant-loop-external : goal.invariant-loop-external
invariant-loop-external l =
    o.walked (externals_of (drop l.external-index l.tree.externals.items)) (walk_of l.done)
    ≡ o.walked (externals_of l.tree.externals.items) (record { functions = []; items = []; lists = [] })
