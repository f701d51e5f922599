use Rattle.std.proofs.Common.{List, sym, ap, ◌∙◌}
use Rattle.im_ctree.specs.declared.declaration.Initializer as ini
use Rattle.im_ctree.specs.Shape.{initializer_of}
use Rattle.im_ctree_parts.specs.Lists.{initializers_from}
use Rattle.im_ctree_parts.proofs.Shapes.{list_tree}
use Rattle.im_check_initialisers.specs.Forms.{listed}
use Rattle.im_check_initialisers.proofs.parts.items_of.Goals as goal

pub returns-in-List : goal.returns-in-List
returns-in-List c =
    ap (λ (xs : List ini.Initializer). initializers_from xs) c.deref.ensures.value
    ∙ sym (ap listed (ap initializer_of c.in-List.is ∙ list_tree c.in-List.field-0 c.in-List.items))
