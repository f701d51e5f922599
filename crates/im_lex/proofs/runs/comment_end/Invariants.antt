use Rattle.std.proofs.Common.{◌≤◌, ◌<◌, ◌-◌, ℕ, length}
use Rattle.im_lex.specs.Pieces.{ClosesAt}
use Rattle.im_lex.proofs.runs.comment_end.Given as goal

abbrev pub invariant-loop-place : goal.invariant-loop-place
invariant-loop-place l = (2 ≤ l.place) × ((i : ℕ) → i < l.place → 2 ≤ i → ClosesAt l.text i → ⊥)

abbrev pub decreases-loop-place : goal.decreases-loop-place
decreases-loop-place l = length l.text - l.place
