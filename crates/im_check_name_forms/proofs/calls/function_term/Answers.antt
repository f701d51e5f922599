use Rattle.std.proofs.Common.{Bool, length, ap, arith, inl, inr, refl, sym, ◌∙◌}
use Rattle.im_ctype.specs.Types.{function}
use Rattle.im_types.specs.Shape.{type_of, types_in}
use Rattle.im_check_scopes.specs.Shape.{callee_of}
use Rattle.im_check_conversions.specs.im_rules.Terms as r
use Rattle.im_check_name_forms.proofs.calls.function_term.Goals as goal

pub all_fit-requires : goal.all_fit-requires
all_fit-requires c = omega (arith, ap length c.deref.ensures.value, ap length c.deref-2.ensures.value, c.if-not-takes.ensures.same refl)

pub call_value-requires : goal.call_value-requires
call_value-requires c = omega (arith, ap length c.deref.ensures.value, c.if-not-takes.ensures.same refl)

pub returns-then-not-takes : goal.returns-then-not-takes
returns-then-not-takes c =
    let told = rw c.deref.ensures.value at (λ (constant : Bool). c.takes.ensures.value c.args.table.now (callee_of c.args.callee) constant (type_of c.args.returned.now)) in
    rw c.refused.ensures (λ constant. (inl (refl, sym (told constant) ∙ c.if-not-takes.true), refl))

pub returns-then-not-all_fit : goal.returns-then-not-all_fit
returns-then-not-all_fit c =
    let told = rw c.deref-2.ensures.value at (c.all_fit.ensures c.args.table.now) in
    rw c.refused-then-not-all_fit.ensures (λ constant. (inr (inr (inl (refl, sym told ∙ c.if-not-all_fit.true))), refl))

pub returns : goal.returns
returns c =
    let taken = rw c.deref.ensures.value at (λ (constant : Bool). c.takes.ensures.value c.args.table.now (callee_of c.args.callee) constant (type_of c.args.returned.now)) in
    let defined = λ (constant : Bool). c.has_body.ensures constant (function (type_of c.args.returned.now) (types_in c.args.parameters.now)) in
    let fit = rw c.deref-2.ensures.value at (c.all_fit.ensures c.args.table.now) in
    λ constant. ((sym (taken constant) ∙ c.if-not-takes.false, (sym (defined constant) ∙ c.if-not-has_body.false, (sym fit ∙ c.if-not-all_fit.false, tt))), ap r.value (c.in_ok-value.ensures constant))
