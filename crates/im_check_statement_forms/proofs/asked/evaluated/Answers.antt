use Rattle.std.proofs.Common.{[]}
use Rattle.std.proofs.lemmas.Result.{err_from_is_err_and}
use Rattle.im_check_locals.specs.im_ctree_parts.Lists.{expression_in}
use Rattle.im_check_statement_forms.proofs.Asking.{asked_inside}
use Rattle.im_check_statement_forms.proofs.Valuing.{evaluated_as}
use Rattle.im_check_statement_forms.proofs.asked.evaluated.Goals as goal

pub returns-in_err-x : goal.returns-in_err-x
returns-in_err-x c =
    let p = err_from_is_err_and c.from_residual.result c.from_residual.ensures.1 in
    rw (p.1, p.2) (asked_inside (λ x. []) c.args.body.now (expression_in c.args.e.now) 0 _ c.in_err-x.ensures)

pub returns : goal.returns
returns c = evaluated_as (λ x. []) c.args.body.now _ (expression_in c.args.e.now) c.in_ok-x.x c.in_ok-value.value c.in_ok-x.ensures tt (rw c.table.ensures at c.in_ok-value.ensures)
