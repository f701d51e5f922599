use Rattle.std.proofs.Common.{◌≤◌}
use Rattle.im_typed.specs.declared.expression.Expr.{size-Expr}
use Rattle.im_typed.proofs.expression.+expression.Given as goal

abbrev pub invariant-Expr::drop-loop-self : goal.invariant-Expr::drop-loop-self
invariant-Expr::drop-loop-self l = size-Expr l.self ≤ size-Expr l.initial.self
