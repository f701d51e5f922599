use Rattle.std.proofs.Common.{List, sym, ap, ◌∙◌}
use Rattle.im_ctree.specs.declared.declaration.Initializer as ini
use Rattle.im_ctree.specs.Shape.{initializer_of}
use Rattle.im_check_stop.specs.im_rules.Initialisers as n
use Rattle.im_ctree_parts.specs.Lists.{initializers_from}
use Rattle.im_ctree_parts.proofs.Shapes.{list_tree}
use Rattle.im_check_shapes.proofs.form.struct_shape.Goals as goal

pub returns-in-List : goal.returns-in-List
returns-in-List c =
    ap (λ (xs : List ini.Initializer). n.members c.args.number (initializers_from xs)) c.deref.ensures.value
    ∙ sym (ap (n.struct_shape c.args.number) (ap initializer_of c.in-List.is ∙ list_tree c.in-List.field-0 c.in-List.items))
