use Rattle.std.proofs.Common.{◌+◌, ◌*◌}
use Rattle.im_typed.specs.declared.expression.Expr.{size-Expr}
use Rattle.im_check_static_values.proofs.constant.+annotated.Given as goal

abbrev pub decreases-annotated : goal.decreases-annotated
decreases-annotated l = 2 * size-Expr l.e + 1

abbrev pub decreases-annotated_form : goal.decreases-annotated_form
decreases-annotated_form l = 2 * size-Expr l.e
