use Rattle.std.proofs.Common.{◌≡◌, ℕ, ◌+◌, ◌<◌, ◌≤◌, length, drop}
use Rattle.im_promote.specs.Written.{object_lives}
use Rattle.im_promote.specs.Words.{has, starts_have}
use Rattle.im_promote.proofs.sweeps.before_block.Given as goal

abbrev pub invariant-loop-left : goal.invariant-loop-left
invariant-loop-left l =
    (l.left ≤ length l.block.lines.items)
    × ((j : ℕ) → j < 32 → has l.word j ≡ object_lives (starts_have l.starts j) (drop l.left l.block.lines.items) l.block.exit (l.base + j))

abbrev pub decreases-loop-left : goal.decreases-loop-left
decreases-loop-left l = l.left
