use Rattle.std.proofs.Common.{◌≡◌, ◌++◌}
use Rattle.im_print_relation.specs.Printed.{consts}
use Rattle.im_print_parts.specs.Output.{spaced}
use Rattle.im_print_parts.proofs.declarators.put_star.Given as goal

abbrev pub invariant-loop-left : goal.invariant-loop-left
invariant-loop-left l = l.out.items ++ spaced (consts l.left) ≡ l.initial.out.items ++ spaced (consts l.fn.star.consts)

abbrev pub decreases-loop-left : goal.decreases-loop-left
decreases-loop-left l = l.left
