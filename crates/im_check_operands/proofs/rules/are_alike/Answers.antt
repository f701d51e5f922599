use Rattle.std.proofs.Common.{ap, ◌∙◌}
use Rattle.im_check_constancy.specs.im_rules.Rules as u
use Rattle.im_check_constancy.specs.im_rules.Terms.{operand_of}
use Rattle.im_check_operands.specs.Shape.{term_in, seen}
use Rattle.im_check_operands.proofs.rules.are_alike.Goals as goal

pub returns : goal.returns
returns c = λ types.
    c.rule_31.ensures
    ∙ ap (λ o. u.rule_31 o (seen c.operand_of-2.result)) (c.operand_of.ensures types)
    ∙ ap (λ o. u.rule_31 (operand_of (term_in types c.args.x.now)) o) (c.operand_of-2.ensures types)
