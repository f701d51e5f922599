use Rattle.std.proofs.Common.{sym, subst, ◌∙◌}
use Rattle.im_ctree.specs.Operators.{IsBinaryOperator}
use Rattle.im_parse_expression.specs.Tables.{binary_operator}
use Rattle.im_parse_expression.proofs.Operators.{no_operator, other_level, has_binary, is_binary, no_level}
use Rattle.im_parse_expression.proofs.look.binary_at.Goals as goal

pub returns-in-Some : goal.returns-in-Some
returns-in-Some c = record { punctuator = c.in_ok-mark.mark; is = subst (λ z. IsBinaryOperator z c.in-Some.operator c.in_ok-mark.mark) c.if-found-level.true (is_binary _ _ _ (sym c.in-Some.ensures)); at = c.in_ok-mark.ensures }

pub returns-in_default : goal.returns-in_default
returns-in_default c = other_level c.in_ok-mark.ensures (sym c.in-Some.ensures) c.if-found-level.false

pub returns-in_default-2 : goal.returns-in_default-2
returns-in_default-2 c = no_level c.in_ok-mark.ensures (sym c.binary_operator.ensures ∙ c.in_default.is)
