use Rattle.std.proofs.Common.{ap, ◌∙◌}
use Rattle.im_check_constancy.specs.im_rules.Rules as u
use Rattle.im_check_operands.proofs.rules.is_scalar_term.Goals as goal

pub returns : goal.returns
returns c = λ types.
    c.is_scalar_value.ensures ∙ ap (λ o. u.rule_25_condition o) (c.operand_of.ensures types)
