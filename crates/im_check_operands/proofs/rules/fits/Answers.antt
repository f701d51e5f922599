use Rattle.std.proofs.Common.{ap, ◌∙◌}
use Rattle.im_check_constancy.specs.im_rules.Rules as u
use Rattle.im_types.specs.Shape.{type_of}
use Rattle.im_check_operands.proofs.rules.fits.Goals as goal

pub returns : goal.returns
returns c = λ types.
    c.fits.ensures ∙ ap (λ o. u.rule_17 (type_of c.args.ty.now) o) (c.operand_of.ensures types)
