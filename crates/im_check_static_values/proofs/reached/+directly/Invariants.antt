use Rattle.std.proofs.Common.{◌≡◌, ◌≤◌, ◌+◌, ◌*◌}
use Rattle.im_ctree.specs.declared.expression.Expression.{size-Expression}
use Rattle.im_check_items.specs.im_rules.StaticValues.{is_reached_directly}
use Rattle.im_check_items.specs.im_ctree_parts.Lists.{expression_in}
use Rattle.im_check_static_values.proofs.reached.+directly.Given as goal

abbrev pub invariant-is_reached_directly-loop-first : goal.invariant-is_reached_directly-loop-first
invariant-is_reached_directly-loop-first l =
    (is_reached_directly (expression_in l.rest) ≡ is_reached_directly (expression_in l.e))
    × (size-Expression l.rest ≤ size-Expression l.e)

abbrev pub decreases-decided_by : goal.decreases-decided_by
decreases-decided_by l = 2 * size-Expression l.e.now

abbrev pub decreases-is_reached_directly : goal.decreases-is_reached_directly
decreases-is_reached_directly l = 2 * size-Expression l.e.now + 1
