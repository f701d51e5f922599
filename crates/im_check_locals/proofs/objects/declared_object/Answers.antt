use Rattle.std.proofs.Common.{sym, ap, ◌∙◌, refl}
use Rattle.std.proofs.lemmas.Result.{err_from_is_err_and}
use Rattle.im_ctree.specs.Shape.{maybe_initializer_of}
use Rattle.im_check_initialisers.specs.im_ctype.Types.{is_complete}
use Rattle.im_rules.specs.Initialisers.{completed}
use Rattle.im_rules.specs.Outline.{is_initialised}
use Rattle.im_rules.specs.Rules.{rule_6_absent}
use Rattle.im_check_declarators.specs.Shape.{declared_of}
use Rattle.im_check_locals.proofs.Demands.{initialised_so, name_refused, object_met}
use Rattle.im_check_locals.proofs.objects.declared_object.Goals as goal

pub returns-in_err-name_asked : goal.returns-in_err-name_asked
returns-in_err-name_asked c = λ n.
    let p = err_from_is_err_and c.from_residual.result c.from_residual.ensures.1 in
    let y = declared_of c.args.written in
    let i = maybe_initializer_of c.args.initializer.now in
    rw (p.1, p.2) (name_refused c.args.place.now n c.args.at y (completed y.type i) (is_initialised i) c.deref.result.now _ (c.deref.ensures.value ∙ c.named-name.ensures) (c.in_err-name_asked.ensures n y.constant (completed y.type i) (is_initialised i)))

pub returns : goal.returns
returns c = λ n.
    let y = declared_of c.args.written in
    let i = maybe_initializer_of c.args.initializer.now in
    let six = ap (λ z. rule_6_absent y.type z) (sym (c.is_some.ensures ∙ initialised_so c.args.initializer.now)) ∙ sym c.has_lengths.ensures ∙ c.if-not-has_lengths.false in
    let five = ap (λ z. is_complete z (completed y.type i)) (sym c.count.ensures) ∙ ap (λ z. is_complete c.count.result z) (sym c.completed-ty.ensures) ∙ sym c.is_complete.ensures ∙ c.if-not-is_complete.false in (
      object_met c.args.place.now n y (completed y.type i) (is_initialised i) c.deref.result.now (c.deref.ensures.value ∙ c.named-name.ensures) (c.in_ok-name_asked.ensures n y.constant (completed y.type i) (is_initialised i)) six five,
      record { name = c.named-name.ensures; constant = refl; type = c.completed-ty.ensures },
    )
