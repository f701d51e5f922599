use Rattle.std.proofs.Common.{refl, sym, ap, inl, ◌∙◌}
use Rattle.im_check_operations.specs.im_rules.Conversions as cv
use Rattle.im_check_forms.proofs.terms.target_term.Goals as goal

pub returns-then-not-is_pointer_to_complete : goal.returns-then-not-is_pointer_to_complete
returns-then-not-is_pointer_to_complete c =
    let n = sym (c.is_pointer_to_complete.ensures) ∙ c.if-not-is_pointer_to_complete.true in
    rw c.refused.ensures (inl (refl, n), refl)

pub returns : goal.returns
returns c =
    let t = c.args.table.now in
    let n = sym (c.is_pointer_to_complete.ensures) ∙ c.if-not-is_pointer_to_complete.false in
    ((n, tt), c.in_ok-made.ensures t ∙ ap cv.pointed c.in_ok-value.ensures)
