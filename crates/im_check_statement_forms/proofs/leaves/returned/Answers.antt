use Rattle.std.proofs.Common.{ap, inl, inr, refl, sym, ◌∙◌}
use Rattle.std.proofs.lemmas.Result.{err_from_is_err_and}
use Rattle.im_types.specs.Shape.{type_of}
use Rattle.im_ctype.specs.Table.{structs_of}
use Rattle.im_ctype.specs.Types.{is_void}
use Rattle.im_check_locals.specs.im_rules.Conversions.{as_type}
use Rattle.im_check_locals.specs.im_rules.Rules.{rule_17}
use Rattle.im_check_locals.specs.im_rules.Statements.{return_value_asks}
use Rattle.im_check_locals.specs.im_rules.Terms as r
use Rattle.im_check_locals.specs.im_ctree_parts.Lists.{expression_in}
use Rattle.im_check_operands.specs.Shape.{term_in}
use Rattle.im_check_statement_forms.specs.Asked.{of_it}
use Rattle.im_check_statement_forms.proofs.Asking.{asked_inside}
use Rattle.im_check_statement_forms.proofs.Alone.{value_for_void, value_for_type}
use Rattle.im_check_statement_forms.proofs.Valuing.{read_value, asked_as}
use Rattle.im_check_statement_forms.proofs.leaves.returned.Goals as goal

pub returns-in_err-x : goal.returns-in_err-x
returns-in_err-x c =
    let p = err_from_is_err_and c.from_residual.result c.from_residual.ensures.1 in
    rw (p.1, p.2) (asked_inside (return_value_asks (type_of c.args.body.now.result)) c.args.body.now (expression_in c.args.e.now) c.args.at _ c.in_err-x.ensures)

pub returns-then-is_void : goal.returns-then-is_void
returns-then-is_void c =
    let gives = type_of c.args.body.now.result in
    let same = ap type_of c.in_ok-x.ensures.1.added.result in
    rw c.refused.ensures (of_it c.in_ok-x.ensures.0 (inl (refl, value_for_void gives (c.if-is_void.ensures ∙ ap is_void same))))

pub returns-then-not-fits : goal.returns-then-not-fits
returns-then-not-fits c =
    let types = c.args.body.now.place.structs in
    let same = ap type_of c.in_ok-x.ensures.1.added.result in
    rw c.refused-then-not-fits.ensures (of_it c.in_ok-x.ensures.0 (inr (inl (refl, sym (c.if-not-fits.ensures types ∙ ap (λ a. rule_17 a (r.operand_of (term_in types c.in_ok-x.x))) same)))))

pub returns : goal.returns
returns c =
    let types = c.args.body.now.place.structs in
    let gives = type_of c.args.body.now.result in
    let same = ap type_of c.in_ok-x.ensures.1.added.result in
    let e = expression_in c.args.e.now in
    let is = read_value c.args.body.now _ e c.in_ok-x.x c.in_ok-value.value c.in_ok-x.ensures (rw c.table.ensures at c.in_ok-value.ensures) in
    asked_as (return_value_asks gives) (λ known x. as_type gives (r.value_of known x)) c.args.body.now _ e c.in_ok-x.x _ c.in_ok-x.ensures
    (value_for_type gives (c.if-is_void.ensures ∙ ap is_void same), (sym (c.if-not-fits.ensures types ∙ ap (λ a. rule_17 a (r.operand_of (term_in types c.in_ok-x.x))) same), tt))
    (c.in_ok-given.ensures types ∙ ap (λ (v : r.Value). as_type (type_of c.term.new.body.result) v) is ∙ ap (λ a. as_type a (r.value_of (structs_of types) (term_in types c.in_ok-x.x))) same)
