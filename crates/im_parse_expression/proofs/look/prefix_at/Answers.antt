use Rattle.std.proofs.Common.{sym}
use Rattle.im_parse_expression.specs.Tables.{prefix_operator}
use Rattle.im_parse_expression.proofs.Operators.{no_operator, has_prefix, is_prefix}
use Rattle.im_parse_expression.proofs.look.prefix_at.Goals as goal

pub returns-in_err-operator : goal.returns-in_err-operator
returns-in_err-operator c = rw c.from_residual-in_err-operator.ensures (no_operator prefix_operator (λ o m is. has_prefix is) c.in_ok-mark.ensures (sym c.in_err-operator.ensures))

pub returns : goal.returns
returns c = record { punctuator = c.in_ok-mark.mark; is = is_prefix _ _ (sym c.in_ok-operator.ensures); at = c.in_ok-mark.ensures }
