use Rattle.std.proofs.Common.{◌≡◌, ◌++◌, drop}
use Rattle.im_ctree.specs.Shape.{init_declarators_of}
use Rattle.im_rules_limits.specs.Limits.{heads_declared}
use Rattle.im_check_counts.specs.Heads.{heads_in}
use Rattle.im_check_counts.proofs.heads.in_declarators.Given as goal

abbrev pub invariant-loop-d : goal.invariant-loop-d
invariant-loop-d l =
    heads_in l.found.items ++ heads_declared (init_declarators_of (drop l.d-index l.declarators))
    ≡ heads_in l.fn.found.items ++ heads_declared (init_declarators_of l.declarators)
