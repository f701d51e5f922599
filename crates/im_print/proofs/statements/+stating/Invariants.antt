use Rattle.std.proofs.Common.{◌≡◌, ◌++◌, drop}
use Rattle.im_ctree.specs.Shape.{block_items_of}
use Rattle.im_ctree.specs.Typedefs.{names_behind_items}
use Rattle.im_print_relation.specs.Printed as printed
use Rattle.im_print_parts.specs.Output.{spaced, known}
use Rattle.im_print.proofs.statements.+stating.Given as goal

abbrev pub invariant-put_items-loop-item : goal.invariant-put_items-loop-item
invariant-put_items-loop-item l =
    (l.out.items ++ spaced (printed.items (known l.names.items) (block_items_of (drop l.item-index l.items))) ≡ l.initial.out.items ++ spaced (printed.items (known l.initial.names.items) (block_items_of l.items)))
    × (names_behind_items (known l.names.items) (block_items_of (drop l.item-index l.items)) ≡ names_behind_items (known l.initial.names.items) (block_items_of l.items))
