use Rattle.std.proofs.Common.{ap, ◌∙◌}
use Rattle.im_ctype.specs.Table.{structs_of}
use Rattle.im_check_constancy.specs.im_rules.Rules as u
use Rattle.im_check_operands.proofs.rules.is_pointer_to_complete.Goals as goal

pub returns : goal.returns
returns c =
    let t = c.args.table.now in
    c.points_to_complete.ensures ∙ ap (λ o. u.rule_24 (structs_of t) o) (c.operand_of.ensures t)
