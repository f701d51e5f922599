use Rattle.im_ctree.specs.Shape.{init_declarators_of}
use Rattle.im_ctree.specs.declared.specifier.Specifiers.{out-Specifiers}
use Rattle.im_ctree_parts.specs.Lists.{list_from}
use Rattle.im_ctree_parts.proofs.Shapes.{specifiers_shape}
use Rattle.im_check_locals.proofs.Specifying.{alone_done}
use Rattle.im_check_locals.proofs.declarations.declaration.Goals as goal

pub returns-in-Some : goal.returns-in-Some
returns-in-Some c =
    let s = out-Specifiers c.args.d.now.specifiers in
    let m = c.in-Some.lone in
    rw (specifiers_shape c.args.d.now.specifiers) (alone_done _ _ _ s.at m.at m.tag.now.items (list_from s.items.items) (init_declarators_of c.args.d.now.declarators.items) c.declared_alone.result c.in-Some.ensures c.declared_alone.ensures)
