use Rattle.std.proofs.Common.{◌≤◌, ◌+◌, ◌-◌, ◌*◌, length, map, ℕ}
use Rattle.im_word.specs.Shown.{shown}
use Rattle.im_ctree.specs.Shape.{initializer_of}
use Rattle.im_parse_expression.proofs.InitializerLines.{InInitializers}
use Rattle.im_parse_expression.proofs.initializers.+initializer.Given as goal

abbrev pub decreases-initializer : goal.decreases-initializer
decreases-initializer l = 2 * (length (map shown l.words.now) - l.at)

abbrev pub decreases-closed_initializers : goal.decreases-closed_initializers
decreases-closed_initializers l = 2 * (length (map shown l.words.now) - l.at) + 1

abbrev pub invariant-closed_initializers-loop-behind : goal.invariant-closed_initializers-loop-behind
invariant-closed_initializers-loop-behind l = InInitializers (l.names) (map shown l.words) l.at (map initializer_of l.items.items) l.next × (l.at ≤ l.next)

abbrev pub decreases-closed_initializers-loop-behind : goal.decreases-closed_initializers-loop-behind
decreases-closed_initializers-loop-behind l = length (map shown l.words) - l.next
