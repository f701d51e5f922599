use Rattle.std.proofs.Common.{◌≤◌, ◌<◌, ◌-◌, ℕ, slice_index}
use Rattle.im_tok.specs.Digits.{IsDigitOf}
use Rattle.im_tok.proofs.digits.digits_end.Given as goal

abbrev pub invariant-loop-end : goal.invariant-loop-end
invariant-loop-end l = (l.start ≤ l.end) × (l.end ≤ l.limit) × ((i : ℕ) → l.start ≤ i → i < l.end → IsDigitOf l.radix (slice_index l.text i))

abbrev pub decreases-loop-end : goal.decreases-loop-end
decreases-loop-end l = l.limit - l.end
