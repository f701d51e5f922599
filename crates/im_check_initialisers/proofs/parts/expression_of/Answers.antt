use Rattle.std.proofs.Common.{List, sym, ap, ◌∙◌}
use Rattle.im_ctree.specs.declared.declaration.Initializer as ini
use Rattle.im_ctree.specs.Shape.{initializer_of}
use Rattle.im_ctree.specs.Tree as tree
use Rattle.im_ctree_parts.specs.Lists.{initializers_from}
use Rattle.im_ctree_parts.proofs.Shapes.{list_tree}
use Rattle.im_check_initialisers.proofs.Forms.{one_in}
use Rattle.im_check_initialisers.proofs.parts.expression_of.Goals as goal

pub first_value-requires : goal.first_value-requires
first_value-requires c =
    let same = ap initializer_of c.in-List.is ∙ list_tree c.in-List.field-0 c.in-List.items ∙ ap (λ (xs : List ini.Initializer). tree.braced_initializer c.in-List.field-0 (initializers_from xs)) (sym c.deref.ensures.value) in
    (c.in-List.field-0, c.requires.1, one_in c.requires.0 c.in-List.field-0 (initializers_from c.deref.result.now) (initializer_of c.args.i.now) c.requires.1 same c.requires.2)

pub returns-in-List : goal.returns-in-List
returns-in-List c = λ a x shape.
    let same = ap initializer_of c.in-List.is ∙ list_tree c.in-List.field-0 c.in-List.items ∙ ap (λ (xs : List ini.Initializer). tree.braced_initializer c.in-List.field-0 (initializers_from xs)) (sym c.deref.ensures.value) in
    c.first_value.ensures c.in-List.field-0 x (one_in a c.in-List.field-0 (initializers_from c.deref.result.now) (initializer_of c.args.i.now) x same shape)
