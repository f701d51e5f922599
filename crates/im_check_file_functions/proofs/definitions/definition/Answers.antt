use Rattle.std.proofs.lemmas.Result.{err_from_is_err_and}
use Rattle.im_ctree.specs.Shape.{block_items_of}
use Rattle.im_ctree.specs.declared.specifier.Specifiers.{out-Specifiers}
use Rattle.im_ctree_parts.proofs.Shapes.{specifiers_shape}
use Rattle.im_check_file_functions.proofs.Defining.{defined}
use Rattle.im_check_file_functions.proofs.definitions.definition.Goals as goal

pub returns-in_err-head : goal.returns-in_err-head
returns-in_err-head c =
    let p = err_from_is_err_and c.from_residual.result c.from_residual.ensures.1 in
    rw (p.1, p.2, specifiers_shape c.args.f.now.specifiers) (c.in_err-head.ensures _)

pub returns : goal.returns
returns c =
    let f = c.args.f.now in
    let s = out-Specifiers f.specifiers in
    rw (specifiers_shape f.specifiers) (defined _ _ _ s.at f.body.at (block_items_of f.body.items.items) c.with_body.result c.in_ok-head.ensures (rw (c.without_void-formals.ensures, c.own_parameters-written.ensures, c.deref.ensures.value, c.deref-2.ensures.value) at c.with_body.ensures))
