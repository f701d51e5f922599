use Rattle.std.proofs.lemmas.Result.{err_from_is_err_and}
use Rattle.im_check_locals.specs.im_ctree_parts.Lists.{expression_in}
use Rattle.im_check_statement_forms.proofs.Alone.{bare_return, bare_fault, returned_done, returned_fault}
use Rattle.im_check_statement_forms.proofs.leaves.return_statement.Goals as goal

pub returns-in_err-value-in-Some : goal.returns-in_err-value-in-Some
returns-in_err-value-in-Some c =
    let p = err_from_is_err_and c.from_residual.result c.from_residual.ensures.1 in
    rw (p.1, p.2, c.in-Some.is) (returned_fault c.args.position c.args.body.now c.args.at (expression_in c.in-Some.e) _ c.in_err-value-in-Some.ensures)

pub returns-in_ok-value-in-Some : goal.returns-in_ok-value-in-Some
returns-in_ok-value-in-Some c = rw c.in-Some.is (returned_done c.args.position c.args.at c.in_ok-value-in-Some.ensures)

pub returns-then-is_void : goal.returns-then-is_void
returns-then-is_void c = rw c.in-None.is (bare_return c.args.position c.args.body.now c.args.at c.if-is_void.ensures)

pub returns-else-is_void : goal.returns-else-is_void
returns-else-is_void c = rw (c.refused.ensures, c.in-None.is) (bare_fault c.args.position c.args.body.now c.args.at c.if-is_void.ensures)
