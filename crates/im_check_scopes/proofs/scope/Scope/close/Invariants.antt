use Rattle.std.proofs.Common.{◌≡◌, length, take}
use Rattle.im_check_scopes.proofs.scope.Scope.close.Given as goal

abbrev pub invariant-loop-self : goal.invariant-loop-self
invariant-loop-self l = take l.mark l.self ≡ take l.mark l.fn.self

abbrev pub decreases-loop-self : goal.decreases-loop-self
decreases-loop-self l = length l.self
