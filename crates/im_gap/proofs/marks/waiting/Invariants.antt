use Rattle.std.proofs.Common.{length, ◌-◌, ◌<◌, ◌≤◌, ℕ, slice_index}
use Rattle.im_gap.specs.Search.{mark_at, IsDone}
use Rattle.im_gap.proofs.marks.waiting.Given as goal

abbrev pub invariant-loop-at : goal.invariant-loop-at
invariant-loop-at l = (l.from ≤ l.at) × (l.at ≤ length l.nodes) × ((k : ℕ) → l.from ≤ k → k < l.at → IsDone (mark_at l.marks (slice_index l.nodes k)))

abbrev pub decreases-loop-at : goal.decreases-loop-at
decreases-loop-at l = length l.nodes - l.at
