use Rattle.std.proofs.lemmas.Result.{err_from_is_err_and}
use Rattle.im_ctree.specs.Shape.{init_declarators_of}
use Rattle.im_check_type_specifiers.specs.Specified.{qualified_of}
use Rattle.im_check_file_place.specs.Files.{file_place_of}
use Rattle.im_check_file_declarations.proofs.External.{unspecified, declaration_made}
use Rattle.im_check_file_declarations.proofs.declarations.declaration.Goals as goal

pub returns-in_err-q : goal.returns-in_err-q
returns-in_err-q c =
    let p = err_from_is_err_and c.from_residual.result c.from_residual.ensures.1 in
    rw (p.1, p.2) (unspecified (file_place_of c.args.file.now) c.args.d.now.specifiers (init_declarators_of c.args.d.now.declarators.items) _ c.in_err-q.ensures)

pub returns : goal.returns
returns c =
    declaration_made (file_place_of c.args.file.now) _ _ c.args.d.now.specifiers (qualified_of c.in_ok-q.q) (init_declarators_of c.args.d.now.declarators.items) _ _ c.declared.result c.in_ok-q.ensures
    (rw (c.deref.ensures.value, c.deref-2.ensures.value) at c.declared.ensures)
