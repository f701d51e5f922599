use Rattle.std.proofs.Common.{◌≤◌, ◌<◌, ◌-◌, ℕ, length, get_or}
use Rattle.im_lex.specs.Bytes.{GoesOn}
use Rattle.im_lex.proofs.runs.number_end.Given as goal

abbrev pub invariant-loop-end : goal.invariant-loop-end
invariant-loop-end l = (0 < l.end) × (l.end ≤ length l.text) × ((i : ℕ) → i < l.end → 0 < i → GoesOn (get_or l.text (i - 1) 0) (get_or l.text i 0))

abbrev pub decreases-loop-end : goal.decreases-loop-end
decreases-loop-end l = length l.text - l.end
