use Rattle.std.proofs.Common.{ap, ◌∙◌}
use Rattle.im_ctree.specs.Shape.{initializer_of}
use Rattle.im_ctree_parts.specs.Lists.{initializers_from}
use Rattle.im_ctree_parts.proofs.Shapes.{list_tree}
use Rattle.im_check_shapes.proofs.Alone.{struct_list}
use Rattle.im_check_shapes.proofs.rule.is_for_struct.Goals as goal

pub returns-in-List : goal.returns-in-List
returns-in-List c =
    let e = ap initializer_of c.in-List.is ∙ list_tree c.in-List.field-0 c.in-List.items in
    let counted = rw c.deref.ensures.value at c.is_at_most.ensures in
    rw e (counted ∙ struct_list c.args.table.now c.args.number c.members-members.result.now c.in-List.field-0 (initializers_from c.in-List.items.items) c.members-members.ensures.members)
