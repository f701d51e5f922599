use Rattle.std.proofs.Common.{refl, sym, inl, ◌∙◌}
use Rattle.im_check_forms.proofs.terms.size_term.Goals as goal

pub returns-then-not-has_size : goal.returns-then-not-has_size
returns-then-not-has_size c =
    let n = sym (c.has_size.ensures) ∙ c.if-not-has_size.true in
    rw c.refused.ensures (inl (refl, n), refl)

pub returns : goal.returns
returns c =
    let n = sym (c.has_size.ensures) ∙ c.if-not-has_size.false in
    ((n, tt), c.in_ok-made.ensures)
