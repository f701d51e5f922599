use Rattle.std.proofs.Common.{◌≡◌, ◌≤◌}
use Rattle.im_ctype.specs.Table.{Table}
use Rattle.im_typed.specs.ProgramOf.{expr_of}
use Rattle.im_typed.specs.declared.expression.Expr.{size-Expr}
use Rattle.im_check_static_values.specs.Chains.{converted}
use Rattle.im_check_static_values.proofs.constant.unconverted.Given as goal

abbrev pub invariant-loop-kind : goal.invariant-loop-kind
invariant-loop-kind l =
    ((types : Table) → converted l.kinds.items (expr_of types l.rest) ≡ expr_of types l.fn.e)
    × (size-Expr l.rest ≤ size-Expr l.fn.e)
