use Rattle.std.proofs.Common.{refl, sym, ap, inl, ◌∙◌}
use Rattle.im_check_operations.specs.im_rules.Terms as r
use Rattle.im_check_forms.proofs.terms.address_term.Goals as goal

pub returns-then-not-is_lvalue : goal.returns-then-not-is_lvalue
returns-then-not-is_lvalue c = λ types.
    let n = sym (c.is_lvalue.ensures types) ∙ c.if-not-is_lvalue.true in
    rw c.refused.ensures (inl (refl, n), refl)

pub returns : goal.returns
returns c = λ types.
    let n = sym (c.is_lvalue.ensures types) ∙ c.if-not-is_lvalue.false in
    ((n, tt), ap r.value (c.in_ok-made.ensures types))
