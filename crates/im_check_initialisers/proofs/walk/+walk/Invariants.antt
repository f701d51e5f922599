use Rattle.std.proofs.Common.{◌≡◌, ◌+◌, ◌*◌, drop}
use Rattle.im_ctree.specs.Shape.{initializer_of}
use Rattle.im_ctree_parts.specs.Lists.{initializers_from}
use Rattle.im_types.specs.Shape.{type_of}
use Rattle.im_check_shapes.proofs.Falls.{size_of, sizes_of}
use Rattle.im_check_initialisers.proofs.Reached.{ElementsReached, MembersReached}
use Rattle.im_check_initialisers.proofs.walk.+walk.Given as goal

abbrev pub invariant-elements-loop-i : goal.invariant-elements-loop-i
invariant-elements-loop-i l =
    ElementsReached l.fn.place (type_of l.element) l.at l.written l.fn.items.items l.place l.offset (drop l.i-index l.written) l.items.items

abbrev pub invariant-members-loop-i : goal.invariant-members-loop-i
invariant-members-loop-i l =
    (l.index ≡ l.i-index) × MembersReached l.fn.place l.number l.at l.written l.fn.items.items l.place l.i-index l.items.items

abbrev pub decreases-initialised : goal.decreases-initialised
decreases-initialised l = 2 * size_of (initializer_of l.i.now)

abbrev pub decreases-elements : goal.decreases-elements
decreases-elements l = 2 * sizes_of (initializers_from l.written.now) + 1

abbrev pub decreases-members : goal.decreases-members
decreases-members l = 2 * sizes_of (initializers_from l.written.now) + 1
