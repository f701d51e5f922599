-- A bound of the longest gap.
use Rattle.std.specs.Prelude.{ℕ, ◌+◌, ◌≤◌, List, length}
use Rattle.im_gap.specs.Gap.{recovery_steps, IsGap}

abbrev pub GapBoundLaw : Type 0
GapBoundLaw = (words : List ℕ) (entry k : ℕ) → IsGap words entry k → k ≤ recovery_steps + length words
