use Rattle.std.proofs.Common.{ap, ◌∙◌}
use Rattle.im_ctype.specs.Table.{structs_of}
use Rattle.im_check_constancy.specs.im_rules.Rules as u
use Rattle.im_check_constancy.specs.im_rules.Terms.{operand_of}
use Rattle.im_check_operands.specs.Shape.{term_in, seen}
use Rattle.im_check_operands.proofs.rules.may_update.Goals as goal

pub returns : goal.returns
returns c =
    let t = c.args.table.now in
    c.rule_30_assign.ensures
    ∙ ap (λ o. u.rule_30_assign (structs_of t) c.args.op o (seen c.operand_of-2.result)) (c.operand_of.ensures t)
    ∙ ap (λ o. u.rule_30_assign (structs_of t) c.args.op (operand_of (term_in t c.args.x.now)) o) (c.operand_of-2.ensures t)
