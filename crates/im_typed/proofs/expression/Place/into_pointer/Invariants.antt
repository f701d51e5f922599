use Rattle.std.proofs.Common.{◌≤◌}
use Rattle.im_typed.specs.declared.expression.Place.{size-Place}
use Rattle.im_typed.proofs.expression.Place.into_pointer.Given as goal

abbrev pub invariant-loop-self : goal.invariant-loop-self
invariant-loop-self l = size-Place l.self ≤ size-Place l.initial.self
