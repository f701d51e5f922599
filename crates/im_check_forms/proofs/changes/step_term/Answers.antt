use Rattle.std.proofs.Common.{refl, sym, ap, inl, inr, ◌∙◌}
use Rattle.im_check_operations.specs.im_rules.Terms as r
use Rattle.im_check_forms.proofs.changes.step_term.Goals as goal

pub returns-then-not-is_lvalue : goal.returns-then-not-is_lvalue
returns-then-not-is_lvalue c =
    let n = sym (c.is_lvalue.ensures c.args.table.now) ∙ c.if-not-is_lvalue.true in
    rw c.refused.ensures (inl (refl, n), refl)

pub returns-then-not-is_changeable : goal.returns-then-not-is_changeable
returns-then-not-is_changeable c =
    let n = sym c.is_changeable.ensures ∙ c.if-not-is_changeable.true in
    rw c.refused-then-not-is_changeable.ensures (inr (inl (refl, n)), refl)

pub returns-then-not-may_step : goal.returns-then-not-may_step
returns-then-not-may_step c =
    let n = sym c.may_step.ensures ∙ c.if-not-may_step.true in
    rw c.refused-then-not-may_step.ensures (inr (inr (inl (refl, n))), refl)

pub returns : goal.returns
returns c =
    let l = sym (c.is_lvalue.ensures c.args.table.now) ∙ c.if-not-is_lvalue.false in
    let m = sym c.is_changeable.ensures ∙ c.if-not-is_changeable.false in
    let n = sym c.may_step.ensures ∙ c.if-not-may_step.false in
    ((l, (m, (n, tt))), ap r.value c.in_ok-made.ensures)
