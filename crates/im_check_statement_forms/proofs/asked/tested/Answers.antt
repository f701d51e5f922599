use Rattle.std.proofs.Common.{inl, refl, sym}
use Rattle.std.proofs.lemmas.Result.{err_from_is_err_and}
use Rattle.im_check_locals.specs.im_rules.Statements.{condition_asks}
use Rattle.im_check_locals.specs.im_ctree_parts.Lists.{expression_in}
use Rattle.im_check_statement_forms.specs.Asked.{of_it}
use Rattle.im_check_statement_forms.proofs.Asking.{asked_inside}
use Rattle.im_check_statement_forms.proofs.Valuing.{evaluated_as}
use Rattle.im_check_statement_forms.proofs.asked.tested.Goals as goal

pub returns-in_err-x : goal.returns-in_err-x
returns-in_err-x c =
    let p = err_from_is_err_and c.from_residual.result c.from_residual.ensures.1 in
    rw (p.1, p.2) (asked_inside condition_asks c.args.body.now (expression_in c.args.e.now) c.args.at _ c.in_err-x.ensures)

pub returns-then-not-is_scalar_term : goal.returns-then-not-is_scalar_term
returns-then-not-is_scalar_term c =
    rw c.refused.ensures (of_it c.in_ok-x.ensures.0 (inl (refl, sym (c.if-not-is_scalar_term.ensures c.args.body.now.place.structs))))

pub returns : goal.returns
returns c = evaluated_as condition_asks c.args.body.now _ (expression_in c.args.e.now) c.in_ok-x.x c.in_ok-value.value c.in_ok-x.ensures (sym (c.if-not-is_scalar_term.ensures c.args.body.now.place.structs), tt) (rw c.table.ensures at c.in_ok-value.ensures)
