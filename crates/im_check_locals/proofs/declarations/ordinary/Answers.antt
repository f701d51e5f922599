use Rattle.std.proofs.lemmas.Result.{err_from_is_err_and}
use Rattle.im_ctree.specs.Shape.{init_declarators_of}
use Rattle.im_ctree.specs.declared.specifier.Specifiers.{out-Specifiers}
use Rattle.im_ctree_parts.specs.Lists.{list_from}
use Rattle.im_ctree_parts.proofs.Shapes.{specifiers_shape}
use Rattle.im_check_locals.proofs.Specifying.{ordinary_fault, ordinary_begun, declaration_done}
use Rattle.im_check_locals.proofs.declarations.ordinary.Goals as goal

pub returns-in_err-q : goal.returns-in_err-q
returns-in_err-q c =
    let p = err_from_is_err_and c.from_residual.result c.from_residual.ensures.1 in
    let s = out-Specifiers c.args.d.now.specifiers in
    rw (p.1, p.2, specifiers_shape c.args.d.now.specifiers) (ordinary_fault c.args.body.now s.at (list_from s.items.items) (init_declarators_of c.args.d.now.declarators.items) _ c.requires c.in_err-q.ensures)

pub returns : goal.returns
returns c =
    let s = out-Specifiers c.args.d.now.specifiers in
    rw (specifiers_shape c.args.d.now.specifiers) (declaration_done (list_from s.items.items) (init_declarators_of c.args.d.now.declarators.items) _ _ _ s.at c.locals.result (ordinary_begun c.requires c.in_ok-q.ensures.0) c.in_ok-q.ensures.1 (rw c.deref.ensures.value at c.locals.ensures))
