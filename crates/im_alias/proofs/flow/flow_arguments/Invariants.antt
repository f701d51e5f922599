use Rattle.std.proofs.Common.{ℕ, ◌+◌, ◌<◌}
use Rattle.im_block_laws.specs.PointsTo.{Sub}
use Rattle.im_alias.specs.Sets.{Flowed, row_sets}
use Rattle.im_alias.proofs.flow.flow_arguments.Given as goal

abbrev pub invariant-loop-k : goal.invariant-loop-k
invariant-loop-k l =
    Flowed (λ p. (k : ℕ) → k < l.k → Sub (row_sets l.spot (l.first + k)) (p.register l.callee (l.to + k))) l.initial.table l.table l.changed
