use Rattle.std.proofs.Common.{ℕ, ◌-◌, ◌≤◌, length, map}
use Rattle.im_word.specs.Shown.{shown}
use Rattle.im_parse_expression.proofs.StarLines.{InConsts}
use Rattle.im_parse_expression.proofs.stars.consts.Given as goal

abbrev pub invariant-loop-behind : goal.invariant-loop-behind
invariant-loop-behind l = InConsts (map shown l.words) l.at l.count l.next × (l.count ≤ l.next)

abbrev pub decreases-loop-behind : goal.decreases-loop-behind
decreases-loop-behind l = length (map shown l.words) - l.next
