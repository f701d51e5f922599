use Rattle.std.proofs.Common.{◌≡◌, IfOk, subst}
use Rattle.im_ctype.specs.declared.integer.Integer.{Integer}
use Rattle.im_typed.specs.ProgramOf.{expr_of}
use Rattle.im_check_operations.specs.im_rules.Conversions.{as_integer}
use Rattle.im_check_operands.specs.Shape.{value_in}
use Rattle.im_check_operations.proofs.assignments.changed_by.Goals as goal

pub returns : goal.returns
returns c types =
    subst (λ (i : Integer). IfOk c.as_integer.result (λ e. expr_of types e.tree ≡ as_integer i (value_in types c.args.y)))
    c.operand_type.ensures (c.as_integer.ensures types)
