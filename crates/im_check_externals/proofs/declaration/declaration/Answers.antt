use Rattle.std.proofs.lemmas.Result.{err_from_is_err_and}
use Rattle.im_ctree.specs.Shape.{init_declarators_of}
use Rattle.im_check_type_specifiers.specs.Specified.{qualified_of}
use Rattle.im_check_file_place.specs.Files.{file_place_of}
use Rattle.im_check_externals.proofs.Declaring.{made}
use Rattle.im_check_externals.proofs.declaration.declaration.Goals as goal

pub returns-in_err-q : goal.returns-in_err-q
returns-in_err-q c =
    let p = err_from_is_err_and c.from_residual.result c.from_residual.ensures.1 in
    rw (p.1, p.2) (c.in_err-q.ensures (init_declarators_of c.args.d.now.declarators.items))

pub returns : goal.returns
returns c =
    made (file_place_of c.args.file.now) _ _ c.args.d.now.specifiers (qualified_of c.in_ok-q.q) (init_declarators_of c.args.d.now.declarators.items) _ _ c.in_order.result c.in_ok-q.ensures
    (rw (c.deref.ensures.value, c.deref-2.ensures.value) at c.in_order.ensures)
