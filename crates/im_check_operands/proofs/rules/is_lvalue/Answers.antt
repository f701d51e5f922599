use Rattle.std.proofs.Common.{ap}
use Rattle.im_check_constancy.specs.im_rules.Rules as u
use Rattle.im_check_operands.proofs.rules.is_lvalue.Goals as goal

pub returns : goal.returns
returns c = λ types. ap (λ o. u.rule_22 o) (c.operand_of.ensures types)
