use Rattle.std.proofs.Common.{◌≡◌, ◌+◌, ◌-◌, ◌^◌, ◌≤◌, min, sum_by, take}
use Rattle.im_store.specs.im_ctype.Table.{Table}
use Rattle.im_typed.specs.ProgramOf.{expr_of}
use Rattle.im_typed.specs.declared.expression.Expr.{size-Expr}
use Rattle.im_typed.specs.Counts.{expr_nodes}
use Rattle.im_typed.proofs.counts.+nodes.Given as goal

abbrev pub invariant-count_arguments-loop-expression : goal.invariant-count_arguments-loop-expression
invariant-count_arguments-loop-expression l =
    (types : Table) → l.total ≡ min (sum_by (λ e. expr_nodes (expr_of types e)) (take l.expression-index l.expressions)) (2 ^ 64 - 1)

abbrev pub invariant-count_expression-loop-operand : goal.invariant-count_expression-loop-operand
invariant-count_expression-loop-operand l =
    ((types : Table) → min (l.total + expr_nodes (expr_of types l.rest)) (2 ^ 64 - 1)
    ≡ min (expr_nodes (expr_of types l.expression)) (2 ^ 64 - 1))
    × (size-Expr l.rest ≤ size-Expr l.expression)
