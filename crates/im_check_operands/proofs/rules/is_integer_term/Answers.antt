use Rattle.std.proofs.Common.{ap, ◌∙◌}
use Rattle.im_check_constancy.specs.im_rules.Rules as u
use Rattle.im_check_operands.proofs.rules.is_integer_term.Goals as goal

pub returns : goal.returns
returns c = record {
  arithmetic = λ types. c.is_integer_value.ensures ∙ ap (λ o. u.rule_25_arithmetic o) (c.operand_of.ensures types);
  switch = λ types. c.is_integer_value.ensures ∙ ap (λ o. u.rule_34_switch o) (c.operand_of.ensures types);
}
