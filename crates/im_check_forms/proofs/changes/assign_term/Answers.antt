use Rattle.std.proofs.Common.{refl, sym, ap, inl, inr, ◌∙◌}
use Rattle.im_ctype.specs.Table.{structs_of}
use Rattle.im_check_operands.specs.Shape.{term_in}
use Rattle.im_check_operations.specs.im_rules.Conversions as cv
use Rattle.im_check_operations.specs.im_rules.Terms as r
use Rattle.im_check_forms.proofs.Made.{rule_asked}
use Rattle.im_check_forms.proofs.changes.assign_term.Goals as goal

pub returns-then-not-is_lvalue : goal.returns-then-not-is_lvalue
returns-then-not-is_lvalue c =
    let n = sym (c.is_lvalue.ensures c.args.table.now) ∙ c.if-not-is_lvalue.true in
    rw c.refused.ensures (inl (refl, n), refl)

pub returns-then-not-is_changeable : goal.returns-then-not-is_changeable
returns-then-not-is_changeable c =
    let n = sym c.is_changeable.ensures ∙ c.if-not-is_changeable.true in
    rw c.refused-then-not-is_changeable.ensures (inr (inl (refl, n)), refl)

pub returns-then-not-may_assign : goal.returns-then-not-may_assign
returns-then-not-may_assign c =
    let t = c.args.table.now in
    let n = sym c.may_assign.ensures ∙ c.if-not-may_assign.true in
    let asked = rule_asked (structs_of t) (cv.operator_of c.args.op) (term_in t c.args.x) (term_in t c.args.y) in
    rw c.refused-then-not-may_assign.ensures (inr (inr (inl (asked ∙ sym c.rule_of_assignment.ensures, n))), refl)

pub returns : goal.returns
returns c =
    let t = c.args.table.now in
    let l = sym (c.is_lvalue.ensures t) ∙ c.if-not-is_lvalue.false in
    let m = sym c.is_changeable.ensures ∙ c.if-not-is_changeable.false in
    let n = sym c.may_assign.ensures ∙ c.if-not-may_assign.false in
    ((l, (m, (n, tt))), ap r.value (c.in_ok-made.ensures ∙ ap (λ (v : r.Value). cv.assigned (structs_of t) c.args.op (term_in t c.args.x) v) c.in_ok-value.ensures))
