use Rattle.std.proofs.lemmas.Result.{err_from_is_err_and}
use Rattle.im_ctree.specs.Shape.{for_init_of, optional_expression_of}
use Rattle.im_check_statement_forms.proofs.Begun.{done_head, head_no_rule, head_begin_fault, head_test_fault, head_step_fault}
use Rattle.im_check_statement_forms.proofs.heads.head.Goals as goal

pub returns-in_err-opened : goal.returns-in_err-opened
returns-in_err-opened c =
    let p = err_from_is_err_and c.from_residual.result c.from_residual.ensures.1 in
    rw (p.1, p.2) (head_no_rule c.args.body.now c.args.at (for_init_of c.args.i.now) (optional_expression_of c.args.c.now) (optional_expression_of c.args.n.now) _ c.in_err-opened.ensures)

pub returns-in_err-first : goal.returns-in_err-first
returns-in_err-first c =
    let p = err_from_is_err_and c.from_residual-in_err-first.result c.from_residual-in_err-first.ensures.1 in
    rw (p.1, p.2) (head_begin_fault c.args.at (for_init_of c.args.i.now) (optional_expression_of c.args.c.now) (optional_expression_of c.args.n.now) _ c.in_ok-opened.ensures.0 c.in_err-first.ensures)

pub returns-in_err-test : goal.returns-in_err-test
returns-in_err-test c =
    let p = err_from_is_err_and c.from_residual-in_err-test.result c.from_residual-in_err-test.ensures.1 in
    rw (p.1, p.2) (head_test_fault c.args.at (optional_expression_of c.args.c.now) (optional_expression_of c.args.n.now) _ c.in_ok-opened.ensures.0 c.in_ok-first.ensures c.in_err-test.ensures)

pub returns-in_err-last : goal.returns-in_err-last
returns-in_err-last c =
    let p = err_from_is_err_and c.from_residual-in_err-last.result c.from_residual-in_err-last.ensures.1 in
    rw (p.1, p.2) (head_step_fault c.args.at (optional_expression_of c.args.n.now) _ c.in_ok-opened.ensures.0 c.in_ok-first.ensures c.in_ok-test.ensures c.in_err-last.ensures)

pub returns : goal.returns
returns c = done_head _ c.in_ok-opened.ensures.0 c.in_ok-first.ensures c.in_ok-test.ensures c.in_ok-last.ensures
