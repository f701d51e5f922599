use Rattle.std.proofs.Common.{ap, ◌∙◌}
use Rattle.im_ctree.specs.Shape.{initializer_of}
use Rattle.im_ctree_parts.proofs.Shapes.{list_tree}
use Rattle.im_check_shapes.proofs.parts.string_in.Goals as goal

pub returns-in-List : goal.returns-in-List
returns-in-List c =
    let e = ap initializer_of c.in-List.is ∙ list_tree c.in-List.field-0 c.in-List.items in
    rw e (rw c.deref.ensures.value at c.only_string.ensures)
