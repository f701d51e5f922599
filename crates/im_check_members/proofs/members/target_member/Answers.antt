use Rattle.im_ctype.specs.Table.{structs_of}
use Rattle.im_ctype.specs.Types.{pointer}
use Rattle.im_check_conversions.specs.im_rules.Rules.{rule_21_arrow}
use Rattle.im_check_conversions.specs.im_rules.Terms.{value, operand_of}
use Rattle.im_typed.specs.ProgramOf.{expr_of}
use Rattle.im_types.specs.Shape.{type_of}
use Rattle.im_check_members.proofs.Made.{not_met}
use Rattle.im_check_members.proofs.Rule.{arrow-none}
use Rattle.im_check_members.proofs.members.target_member.Goals as goal

pub returns-in-None : goal.returns-in-None
returns-in-None c =
    let t = c.args.table.now in
    let a = type_of c.args.target.now in
    let k = c.args.constant in
    let e = expr_of t c.args.pointer in
    let x = c.args.name.now in
    not_met 21 c.args.at (rule_21_arrow (structs_of t) (operand_of (value (record { type = pointer k a; expr = e }))) x) _ c.refused.ensures (arrow-none (structs_of t) k a e x c.in-None.ensures)
