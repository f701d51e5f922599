use Rattle.std.proofs.Common.{ap, ◌∙◌}
use Rattle.std.proofs.lemmas.Result.{err_from_is_err_and}
use Rattle.im_num.specs.Kinds.{wrap}
use Rattle.im_check_locals.specs.im_rules.Statements.{case_asks}
use Rattle.im_check_locals.specs.im_ctree_parts.Lists.{expression_in}
use Rattle.im_check_operands.specs.Shape.{term_in}
use Rattle.im_check_statement_forms.specs.Asked.{of_it}
use Rattle.im_check_statement_forms.specs.Labelling.{labels_of}
use Rattle.im_check_statement_forms.proofs.Asking.{asked_inside}
use Rattle.im_check_statement_forms.proofs.Adding.{not_constant, there_already, case_put}
use Rattle.im_check_statement_forms.proofs.labels.case_label.Goals as goal

pub returns-in_err-x : goal.returns-in_err-x
returns-in_err-x c =
    let p = err_from_is_err_and c.from_residual.result c.from_residual.ensures.1 in
    rw (p.1, p.2) (asked_inside (λ x. case_asks c.args.ty x (labels_of c.args.labels.now)) c.args.body.now (expression_in c.args.e.now) c.args.at _ c.in_err-x.ensures)

pub returns-in_default : goal.returns-in_default
returns-in_default c =
    let types = c.args.body.now.place.structs in
    rw c.refused.ensures (of_it c.in_ok-x.ensures.0 (not_constant c.args.ty (term_in types c.in_ok-x.x) c.args.labels.now (c.in_default.ensures types)))

pub returns-then-fresh : goal.returns-then-fresh
returns-then-fresh c =
    let types = c.args.body.now.place.structs in
    case_put c.args.body.now _ (expression_in c.args.e.now) c.args.ty c.args.n c.args.labels.now _ (term_in types c.in_ok-x.x) c.in-Some.z.value c.converted-value.result.value c.in_ok-x.ensures.0 c.in_ok-x.ensures.1 c.in_ok-x.ensures.2 (c.in-Some.ensures types)
    (c.converted-value.ensures ∙ ap (λ k. wrap k c.in-Some.z.value) c.kind.ensures) c.in_ok-fresh.fresh c.in_ok-fresh.ensures c.if-fresh.true

pub returns : goal.returns
returns c =
    let types = c.args.body.now.place.structs in
    rw c.clash.ensures (of_it c.in_ok-x.ensures.0
    (there_already c.args.ty (term_in types c.in_ok-x.x) c.args.labels.now c.in-Some.z.value c.converted-value.result.value (c.in-Some.ensures types)
    (c.converted-value.ensures ∙ ap (λ k. wrap k c.in-Some.z.value) c.kind.ensures) c.in_ok-fresh.fresh c.in_ok-fresh.ensures.is_fresh c.if-fresh.false))
