use Rattle.std.proofs.Common.{refl, sym, ap, inl, inr, ◌∙◌}
use Rattle.im_ctype.specs.Table.{structs_of}
use Rattle.im_check_operations.specs.im_rules.Conversions as cv
use Rattle.im_check_operations.specs.im_rules.Terms as r
use Rattle.im_check_forms.proofs.Made.{of_three}
use Rattle.im_check_forms.proofs.terms.conditional_term.Goals as goal

pub returns-then-not-is_scalar_term : goal.returns-then-not-is_scalar_term
returns-then-not-is_scalar_term c =
    let n = sym (c.is_scalar_term.ensures c.args.table.now) ∙ c.if-not-is_scalar_term.true in
    rw c.refused.ensures (inl (refl, n), refl)

pub returns-then-not-are_alike : goal.returns-then-not-are_alike
returns-then-not-are_alike c =
    let n = sym (c.are_alike.ensures c.args.table.now) ∙ c.if-not-are_alike.true in
    rw c.refused-then-not-are_alike.ensures (inr (inl (refl, n)), refl)

pub returns : goal.returns
returns c =
    let t = c.args.table.now in
    let m = sym (c.is_scalar_term.ensures t) ∙ c.if-not-is_scalar_term.false in
    let n = sym (c.are_alike.ensures t) ∙ c.if-not-are_alike.false in
    ((m, (n, tt)), ap r.value (c.in_ok-made.ensures t ∙ of_three (cv.chosen (structs_of t)) c.in_ok-condition.ensures c.in_ok-first.ensures c.in_ok-second.ensures))
