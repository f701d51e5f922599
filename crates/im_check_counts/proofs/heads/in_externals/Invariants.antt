use Rattle.std.proofs.Common.{◌≡◌, ◌++◌, drop}
use Rattle.im_ctree.specs.Shape.{externals_of}
use Rattle.im_rules_limits.specs.Limits.{function_heads}
use Rattle.im_check_counts.specs.Heads.{heads_in}
use Rattle.im_check_counts.proofs.heads.in_externals.Given as goal

abbrev pub invariant-loop-external : goal.invariant-loop-external
invariant-loop-external l =
    heads_in l.found.items ++ function_heads (externals_of (drop l.external-index l.externals))
    ≡ heads_in l.fn.found.items ++ function_heads (externals_of l.externals)
