use Rattle.std.proofs.Common.{◌<◌, ◌-◌, ℕ, length, slice_index}
use Rattle.im_lex.specs.Bytes.{IsGap}
use Rattle.im_lex.proofs.runs.begins_marker.Given as goal

abbrev pub invariant-loop-place : goal.invariant-loop-place
invariant-loop-place l = (0 < l.place) × ((i : ℕ) → i < l.place → 0 < i → IsGap (slice_index l.text i))

abbrev pub decreases-loop-place : goal.decreases-loop-place
decreases-loop-place l = length l.text - l.place
