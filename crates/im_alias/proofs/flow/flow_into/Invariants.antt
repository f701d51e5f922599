use Rattle.std.proofs.Common.{ℕ, take}
use Rattle.im_block.specs.Sections.{Has}
use Rattle.im_block_laws.specs.PointsTo.{Sub}
use Rattle.im_alias.specs.Sets.{Flowed}
use Rattle.im_alias.proofs.flow.flow_into.Given as goal

abbrev pub invariant-loop-object : goal.invariant-loop-object
invariant-loop-object l =
    Flowed (λ p. (n : ℕ) → Has (take l.object-index l.object-items) n → Sub l.from.members.items (p.object n)) l.initial.table l.table l.changed
