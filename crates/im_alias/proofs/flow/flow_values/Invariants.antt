use Rattle.std.proofs.Common.{take}
use Rattle.im_block_laws.specs.PointsTo.{ConstantsIn}
use Rattle.im_alias.specs.Sets.{Flowed}
use Rattle.im_alias.proofs.flow.flow_values.Given as goal

abbrev pub invariant-loop-value : goal.invariant-loop-value
invariant-loop-value l = Flowed (λ p. ConstantsIn (p.object l.number) (take l.value-index l.values)) l.initial.table l.table l.changed
