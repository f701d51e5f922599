use Rattle.std.proofs.Common.{ap, ◌∙◌}
use Rattle.im_check_constancy.specs.im_rules.Rules as u
use Rattle.im_types.specs.Shape.{type_of}
use Rattle.im_check_operands.proofs.rules.casts.Goals as goal

pub returns : goal.returns
returns c = λ types.
    c.rule_32.ensures ∙ ap (λ o. u.rule_32 (type_of c.args.ty.now) o) (c.operand_of.ensures types)
