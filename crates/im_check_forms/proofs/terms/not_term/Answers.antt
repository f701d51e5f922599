use Rattle.std.proofs.Common.{refl, sym, ap, inl, ◌∙◌}
use Rattle.im_check_operations.specs.im_typed.Program.{Not}
use Rattle.im_check_operations.specs.im_rules.Conversions as cv
use Rattle.im_check_operations.specs.im_rules.Terms as r
use Rattle.im_check_forms.proofs.terms.not_term.Goals as goal

pub returns-then-not-is_scalar_term : goal.returns-then-not-is_scalar_term
returns-then-not-is_scalar_term c =
    let t = c.args.table.now in
    let n = sym (c.is_scalar_term.ensures t) ∙ c.if-not-is_scalar_term.true in
    rw c.refused.ensures (inl (refl, n), refl)

pub returns : goal.returns
returns c =
    let t = c.args.table.now in
    let n = sym (c.is_scalar_term.ensures t) ∙ c.if-not-is_scalar_term.false in
    ((n, tt), ap r.value (c.in_ok-made.ensures t ∙ ap (λ (v : r.Value). cv.int_value (Not v.expr)) c.in_ok-value.ensures))
