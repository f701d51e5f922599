use Rattle.std.proofs.Common.{◌≡◌, ◌+◌, ◌*◌, length, drop}
use Rattle.im_ctree.specs.Shape.{initializer_of}
use Rattle.im_ctype.specs.Table.{structs_of}
use Rattle.im_ctype.specs.Types.{members_of}
use Rattle.im_check_shapes.specs.im_rules.Initialisers.{side_by_side, in_order, strings_among}
use Rattle.im_ctree_parts.specs.Lists.{initializers_from}
use Rattle.im_types.specs.Shape.{type_of}
use Rattle.im_check_shapes.proofs.Falls.{size_of, sizes_of}
use Rattle.im_check_texts.proofs.string_given.+given.Given as goal

abbrev pub invariant-behind_elements-loop-i : goal.invariant-behind_elements-loop-i
invariant-behind_elements-loop-i l =
    l.done + length (strings_among (structs_of l.table) (side_by_side (type_of l.element)) (initializers_from (drop l.i-index l.items))) ≡ l.next + length (strings_among (structs_of l.table) (side_by_side (type_of l.element)) (initializers_from l.items))

abbrev pub invariant-behind_members-loop-i : goal.invariant-behind_members-loop-i
invariant-behind_members-loop-i l =
    (l.index ≡ l.i-index)
    × (l.done + length (strings_among (structs_of l.table) (in_order (drop l.index (members_of (structs_of l.table) l.number))) (initializers_from (drop l.i-index l.items))) ≡ l.next + length (strings_among (structs_of l.table) (in_order (members_of (structs_of l.table) l.number)) (initializers_from l.items)))

abbrev pub decreases-behind_given : goal.decreases-behind_given
decreases-behind_given l = 4 * size_of (initializer_of l.i.now)

abbrev pub decreases-behind_list : goal.decreases-behind_list
decreases-behind_list l = 4 * sizes_of (initializers_from l.items.now) + 2

abbrev pub decreases-behind_elements : goal.decreases-behind_elements
decreases-behind_elements l = 4 * sizes_of (initializers_from l.items.now) + 1

abbrev pub decreases-behind_members : goal.decreases-behind_members
decreases-behind_members l = 4 * sizes_of (initializers_from l.items.now) + 1
