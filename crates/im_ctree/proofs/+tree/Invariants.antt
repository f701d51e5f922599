use Rattle.std.proofs.Common.{◌≤◌}
use Rattle.im_ctree.specs.declared.expression.Expression.{size-Expression}
use Rattle.im_ctree.proofs.+tree.Given as goal

abbrev pub invariant-expression::Expression::drop-loop-first :
    goal.invariant-expression::Expression::drop-loop-first
invariant-expression::Expression::drop-loop-first l =
    size-Expression l.self ≤ size-Expression l.initial.self
