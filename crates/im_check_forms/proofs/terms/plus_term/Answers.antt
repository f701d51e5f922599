use Rattle.std.proofs.Common.{refl, sym, ap, inl, ◌∙◌}
use Rattle.im_check_operations.specs.im_rules.Conversions as cv
use Rattle.im_check_operations.specs.im_rules.Terms as r
use Rattle.im_check_forms.proofs.terms.plus_term.Goals as goal

pub returns-then-not-is_integer_term : goal.returns-then-not-is_integer_term
returns-then-not-is_integer_term c =
    let t = c.args.table.now in
    let n = sym (c.is_integer_term.ensures.arithmetic t) ∙ c.if-not-is_integer_term.true in
    rw c.refused.ensures (inl (refl, n), refl)

pub returns : goal.returns
returns c =
    let t = c.args.table.now in
    let n = sym (c.is_integer_term.ensures.arithmetic t) ∙ c.if-not-is_integer_term.false in
    ((n, tt), ap r.value (c.in_ok-made.ensures t ∙ ap cv.promoted_value c.in_ok-value.ensures))
