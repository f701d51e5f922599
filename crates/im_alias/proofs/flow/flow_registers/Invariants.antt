use Rattle.std.proofs.Common.{ℕ, ◌<◌}
use Rattle.im_block_laws.specs.PointsTo.{Sub}
use Rattle.im_alias.specs.Sets.{Flowed, row_sets}
use Rattle.im_alias.proofs.flow.flow_registers.Given as goal

abbrev pub invariant-loop-register : goal.invariant-loop-register
invariant-loop-register l =
    Flowed (λ p. (r : ℕ) → r < l.register → Sub (row_sets l.fn.spot r) (p.register l.number r)) l.initial.table l.table l.changed
