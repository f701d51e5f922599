use Rattle.std.proofs.Common.{◌≡◌, ◌≤◌, ◌++◌, drop, length}
use Rattle.im_print_parts.specs.Output.{known}
use Rattle.im_ctree.specs.Shape.{init_declarators_of}
use Rattle.im_ctree.specs.Typedefs.{declared_names}
use Rattle.im_print_parts.proofs.names.push_names.Given as goal

abbrev pub invariant-loop-left : goal.invariant-loop-left
invariant-loop-left l = (l.left ≤ length l.declarators) × (known l.names.items ≡ declared_names (init_declarators_of (drop l.left l.declarators)) ++ known l.initial.names.items)

abbrev pub decreases-loop-left : goal.decreases-loop-left
decreases-loop-left l = l.left
