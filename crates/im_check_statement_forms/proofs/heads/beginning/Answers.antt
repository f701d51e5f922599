use Rattle.std.proofs.lemmas.Result.{err_from_is_err_and}
use Rattle.im_ctree.specs.Shape.{declaration_of}
use Rattle.im_check_statement_forms.proofs.Begun.{begun_by_declaration, begun_declaration_fault}
use Rattle.im_check_statement_forms.proofs.heads.beginning.Goals as goal

pub returns-in_err-declaration-in-Declaration : goal.returns-in_err-declaration-in-Declaration
returns-in_err-declaration-in-Declaration c =
    let p = err_from_is_err_and c.from_residual.result c.from_residual.ensures.1 in
    rw (p.1, p.2, c.in-Declaration.is) (begun_declaration_fault c.args.body.now (declaration_of c.in-Declaration.d) _ c.in_err-declaration-in-Declaration.ensures)

pub returns-in_ok-declaration-in-Declaration : goal.returns-in_ok-declaration-in-Declaration
returns-in_ok-declaration-in-Declaration c =
    rw c.in-Declaration.is (begun_by_declaration c.block_made.result c.in_ok-declaration-in-Declaration.ensures c.new-done.ensures.items (c.block_made.ensures c.args.body.now.place.structs))

pub returns-in-Expression : goal.returns-in-Expression
returns-in-Expression c = rw c.in-Expression.is c.begun.ensures
