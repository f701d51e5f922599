use Rattle.std.proofs.Common.{ℕ, ◌-◌, length, map}
use Rattle.im_word.specs.Shown.{shown}
use Rattle.im_parse_expression.proofs.StarLines.{InStars}
use Rattle.im_parse_expression.specs.Declaring.{stars_tree}
use Rattle.im_parse_expression.proofs.stars.stars.Given as goal

abbrev pub invariant-loop-behind : goal.invariant-loop-behind
invariant-loop-behind l = InStars (map shown l.words) l.at (stars_tree l.items) l.next

abbrev pub decreases-loop-behind : goal.decreases-loop-behind
decreases-loop-behind l = length (map shown l.words) - l.next
