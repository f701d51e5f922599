use Rattle.std.proofs.lemmas.Result.{err_from_is_err_and}
use Rattle.im_ctree.specs.Shape.{declarator_of, maybe_initializer_of}
use Rattle.im_ctree_parts.specs.Lists.{list_from}
use Rattle.im_check_type_specifiers.specs.Specified.{qualified_of}
use Rattle.im_check_declarators.specs.Shape.{declared_of}
use Rattle.im_check_file_place.specs.Files.{file_place_of}
use Rattle.im_check_file_declarations.proofs.Declarators.{undeclared, name_fault, declared_made}
use Rattle.im_check_file_declarations.proofs.declarator.one_declared.Goals as goal

pub returns-in_err-y : goal.returns-in_err-y
returns-in_err-y c = λ rest.
    let p = err_from_is_err_and c.from_residual-in_err-y.result c.from_residual-in_err-y.ensures.1 in
    rw (p.1, p.2) (undeclared (file_place_of c.args.file.now) (list_from c.args.specifiers.now) (qualified_of c.args.q.now) (declarator_of c.args.x.now.declarator) (maybe_initializer_of c.args.x.now.initializer) rest _ (rw c.in_ok-each.ensures at c.in_err-y.ensures))

pub returns-in_err-ty : goal.returns-in_err-ty
returns-in_err-ty c = λ rest.
    let p = err_from_is_err_and c.from_residual-in_err-ty.result c.from_residual-in_err-ty.ensures.1 in
    let y = rw c.in_ok-each.ensures at c.in_ok-y.ensures in
    rw (p.1, p.2) (name_fault (file_place_of c.args.file.now) _ (list_from c.args.specifiers.now) (qualified_of c.args.q.now) c.args.x.now.declarator (maybe_initializer_of c.args.x.now.initializer) rest (declared_of c.in_ok-y.y) _ y.0 y.1 c.in_err-ty.ensures)

pub returns : goal.returns
returns c = λ rest.
    let y = rw c.in_ok-each.ensures at c.in_ok-y.ensures in
    declared_made _ rest _ _ c.given.result (record { declares = y.0; small = y.2; read = y.1; entered = c.in_ok-ty.ensures.1; type = c.in_ok-ty.ensures.0 }) c.given.ensures
