use Rattle.std.proofs.Common.{◌≡◌, ℕ, ◌<◌, ◌≤◌, length, drop}
use Rattle.im_live.specs.Reads.{lives_before}
use Rattle.im_live.specs.Words.{has, starts_have}
use Rattle.im_live.proofs.sweeps.before_block.Given as goal

abbrev pub invariant-loop-left : goal.invariant-loop-left
invariant-loop-left l =
    (l.left ≤ length l.block.lines.items)
    × ((r : ℕ) → r < 32 → has l.word r ≡ lives_before (starts_have l.starts) (drop l.left l.block.lines.items) l.block.exit r)

abbrev pub decreases-loop-left : goal.decreases-loop-left
decreases-loop-left l = l.left
