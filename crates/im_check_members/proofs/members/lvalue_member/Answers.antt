use Rattle.std.proofs.Common.{◌∙◌}
use Rattle.im_ctype.specs.Table.{structs_of}
use Rattle.im_check_conversions.specs.im_rules.Rules.{rule_21_dot}
use Rattle.im_check_conversions.specs.im_rules.Terms.{lvalue, operand_of}
use Rattle.im_typed.specs.ProgramOf.{place_of}
use Rattle.im_types.specs.Shape.{type_of}
use Rattle.im_check_members.proofs.Made.{at_place, not_met}
use Rattle.im_check_members.proofs.Rule.{lvalue-dot, lvalue-none}
use Rattle.im_check_members.proofs.members.lvalue_member.Goals as goal

pub returns-in_ok-member_at-in-Some : goal.returns-in_ok-member_at-in-Some
returns-in_ok-member_at-in-Some c =
    let t = c.args.table.now in
    let a = type_of c.args.ty.now in
    let k = c.args.constant in
    let p = place_of t c.args.place in
    let x = c.args.name.now in
    let f = c.in-Some.ensures in
    ((lvalue-dot (structs_of t) k a p x f.named, tt), c.in_ok-member_at-in-Some.ensures ∙ at_place t a x c.in-Some.found f k p)

pub returns-in-None : goal.returns-in-None
returns-in-None c =
    let t = c.args.table.now in
    let a = type_of c.args.ty.now in
    let k = c.args.constant in
    let p = place_of t c.args.place in
    let x = c.args.name.now in
    not_met 21 c.args.at (rule_21_dot (structs_of t) (operand_of (lvalue k a p)) x) _ c.refused.ensures (lvalue-none (structs_of t) k a p x c.in-None.ensures)
