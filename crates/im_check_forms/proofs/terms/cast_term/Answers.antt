use Rattle.std.proofs.Common.{refl, sym, ap, inl, ◌∙◌}
use Rattle.im_types.specs.Shape.{type_of}
use Rattle.im_check_operations.specs.im_rules.Conversions as cv
use Rattle.im_check_operations.specs.im_rules.Terms as r
use Rattle.im_check_forms.proofs.terms.cast_term.Goals as goal

pub returns-then-not-casts : goal.returns-then-not-casts
returns-then-not-casts c =
    let t = c.args.table.now in
    let n = sym (c.casts.ensures t) ∙ c.if-not-casts.true in
    rw c.refused.ensures (inl (refl, n), refl)

pub returns : goal.returns
returns c =
    let t = c.args.table.now in
    let n = sym (c.casts.ensures t) ∙ c.if-not-casts.false in
    ((n, tt), ap r.value (c.in_ok-made.ensures t ∙ ap (λ (v : r.Value). cv.casted (type_of c.args.ty) v) c.in_ok-value.ensures))
