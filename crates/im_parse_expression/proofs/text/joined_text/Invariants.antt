use Rattle.std.proofs.Common.{ℕ, ◌-◌, length, map}
use Rattle.im_word.specs.Shown.{shown}
use Rattle.im_parse_expression.proofs.TextLines.{InText}
use Rattle.im_parse_expression.proofs.text.joined_text.Given as goal

abbrev pub invariant-loop-more : goal.invariant-loop-more
invariant-loop-more l = InText (map shown l.words) l.at l.bytes.items l.next

abbrev pub decreases-loop-more : goal.decreases-loop-more
decreases-loop-more l = length (map shown l.words) - l.next
