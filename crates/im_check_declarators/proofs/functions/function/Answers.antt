use Rattle.std.proofs.Common.{inl, refl, sym, ap, ◌∙◌}
use Rattle.im_ctype.specs.Types.{CType, CTypes, function}
use Rattle.im_rules.specs.Declared.{Qualified}
use Rattle.im_types.specs.Shape.{type_of}
use Rattle.im_check_declarators.proofs.functions.function.Goals as goal

pub returns-then-not-may_be_function : goal.returns-then-not-may_be_function
returns-then-not-may_be_function c =
    let n = rw c.without_void-kept.ensures at (sym c.may_be_function.ensures ∙ c.if-not-may_be_function.true) in
    rw c.refused.ensures (inl (refl, n), refl)

pub returns : goal.returns
returns c =
    let n = rw c.without_void-kept.ensures at (sym c.may_be_function.ensures ∙ c.if-not-may_be_function.false) in
    let plain : CType → Qualified = λ a. record { constant = c.args.q.constant; type = a } in
    let told = rw c.without_void-kept.ensures at c.in_ok-types.ensures in
    ((n, tt), ap plain (c.in_ok-ty.ensures ∙ ap (λ (z : CTypes). function (type_of c.args.q.ty) z) told))
