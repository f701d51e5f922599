use Rattle.std.proofs.Common.{◌≡◌, ◌+◌, ◌*◌, ◌++◌, drop}
use Rattle.im_ctree.specs.Shape.{initializer_of}
use Rattle.im_ctype.specs.Table.{structs_of}
use Rattle.im_ctype.specs.Types.{members_of}
use Rattle.im_check_texts.specs.im_rules.Initialisers.{side_by_side, in_order, strings_among}
use Rattle.im_ctree_parts.specs.Lists.{initializers_from}
use Rattle.im_types.specs.Shape.{type_of}
use Rattle.im_check_shapes.proofs.Falls.{size_of, sizes_of}
use Rattle.im_check_texts.specs.Texts.{texts_in}
use Rattle.im_check_texts.proofs.given.+given.Given as goal

abbrev pub invariant-append_elements-loop-i : goal.invariant-append_elements-loop-i
invariant-append_elements-loop-i l =
    texts_in l.texts.items ++ strings_among (structs_of l.table) (side_by_side (type_of l.element)) (initializers_from (drop l.i-index l.items)) ≡ texts_in l.initial.texts.items ++ strings_among (structs_of l.table) (side_by_side (type_of l.element)) (initializers_from l.items)

abbrev pub invariant-append_members-loop-i : goal.invariant-append_members-loop-i
invariant-append_members-loop-i l =
    (l.index ≡ l.i-index)
    × (texts_in l.texts.items ++ strings_among (structs_of l.table) (in_order (drop l.index (members_of (structs_of l.table) l.number))) (initializers_from (drop l.i-index l.items)) ≡ texts_in l.initial.texts.items ++ strings_among (structs_of l.table) (in_order (members_of (structs_of l.table) l.number)) (initializers_from l.items))

abbrev pub decreases-append_given : goal.decreases-append_given
decreases-append_given l = 4 * size_of (initializer_of l.i.now)

abbrev pub decreases-append_list : goal.decreases-append_list
decreases-append_list l = 4 * sizes_of (initializers_from l.items.now) + 2

abbrev pub decreases-append_elements : goal.decreases-append_elements
decreases-append_elements l = 4 * sizes_of (initializers_from l.items.now) + 1

abbrev pub decreases-append_members : goal.decreases-append_members
decreases-append_members l = 4 * sizes_of (initializers_from l.items.now) + 1
