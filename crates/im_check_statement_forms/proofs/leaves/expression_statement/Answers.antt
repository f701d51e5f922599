use Rattle.std.proofs.lemmas.Result.{err_from_is_err_and}
use Rattle.im_check_locals.specs.im_ctree_parts.Lists.{expression_in}
use Rattle.im_check_statement_forms.proofs.Alone.{nothing_done, evaluated_done, evaluated_fault}
use Rattle.im_check_statement_forms.proofs.leaves.expression_statement.Goals as goal

pub returns-in-None : goal.returns-in-None
returns-in-None c = rw c.in-None.is (nothing_done c.args.position c.args.body.now c.args.at c.block_made.result (rw c.new.ensures.items at (c.block_made.ensures c.args.body.now.place.structs)))

pub returns-in_err-value-in-Some : goal.returns-in_err-value-in-Some
returns-in_err-value-in-Some c =
    let p = err_from_is_err_and c.from_residual.result c.from_residual.ensures.1 in
    rw (p.1, p.2, c.in-Some.is) (evaluated_fault c.args.position c.args.body.now c.args.at (expression_in c.in-Some.e) _ c.in_err-value-in-Some.ensures)

pub returns-in_ok-value-in-Some : goal.returns-in_ok-value-in-Some
returns-in_ok-value-in-Some c = rw c.in-Some.is (evaluated_done c.args.position c.args.at c.in_ok-value-in-Some.ensures)
