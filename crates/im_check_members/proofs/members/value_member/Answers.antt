use Rattle.std.proofs.Common.{true, false, sym, ◌∙◌}
use Rattle.im_ctype.specs.Table.{structs_of}
use Rattle.im_check_conversions.specs.im_rules.Rules.{rule_21_dot}
use Rattle.im_check_conversions.specs.im_rules.Terms.{value, operand_of}
use Rattle.im_typed.specs.ProgramOf.{expr_of}
use Rattle.im_types.specs.Shape.{type_of}
use Rattle.im_check_operands.specs.Shape.{value_in}
use Rattle.im_check_members.proofs.Made.{in_value, array_or_not, not_met}
use Rattle.im_check_members.proofs.Rule.{value-dot, value-none}
use Rattle.im_check_members.proofs.members.value_member.Goals as goal

pub returns-in_ok-part_of-in-Some : goal.returns-in_ok-part_of-in-Some
returns-in_ok-part_of-in-Some c =
    let t = c.args.table.now in
    let a = type_of c.args.value.ty in
    let e = expr_of t c.args.value.expr.tree in
    let x = c.args.name.now in
    let f = c.in-Some.ensures in
    let b = type_of c.in_ok-ty-in-Some.ty in
    let plain = array_or_not t a x c.in-Some.found f b false c.in_ok-ty-in-Some.ensures (sym c.if-is_array.false ∙ c.is_array.ensures) in
    ((value-dot (structs_of t) a e x false f.named plain, tt), c.in_ok-part_of-in-Some.ensures ∙ in_value t a x c.in-Some.found f b e c.in_ok-ty-in-Some.ensures)

pub returns-then-is_array : goal.returns-then-is_array
returns-then-is_array c =
    let t = c.args.table.now in
    let a = type_of c.args.value.ty in
    let e = expr_of t c.args.value.expr.tree in
    let x = c.args.name.now in
    let f = c.in-Some.ensures in
    let b = type_of c.in_ok-ty-in-Some.ty in
    let array = array_or_not t a x c.in-Some.found f b true c.in_ok-ty-in-Some.ensures (sym c.if-is_array.true ∙ c.is_array.ensures) in
    not_met 21 c.args.at (rule_21_dot (structs_of t) (operand_of (value (value_in t c.args.value))) x) _ c.refused.ensures (value-dot (structs_of t) a e x true f.named array)

pub returns-in-None : goal.returns-in-None
returns-in-None c =
    let t = c.args.table.now in
    let x = c.args.name.now in
    not_met 21 c.args.at (rule_21_dot (structs_of t) (operand_of (value (value_in t c.args.value))) x) _ c.refused-in-None.ensures
    (value-none (structs_of t) (type_of c.args.value.ty) (expr_of t c.args.value.expr.tree) x c.in-None.ensures)
