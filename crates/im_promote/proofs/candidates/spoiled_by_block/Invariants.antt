use Rattle.std.proofs.Common.{◌≡◌, ℕ, ◌+◌, ◌<◌, ◌≤◌, false, length, drop}
use Rattle.std.specs.Prelude.{All}
use Rattle.im_block.specs.declared.code.Line.{Line}
use Rattle.im_promote.specs.Words.{has, breaks}
use Rattle.im_promote.proofs.candidates.spoiled_by_block.Given as goal

abbrev pub invariant-loop-left : goal.invariant-loop-left
invariant-loop-left l =
    (l.left ≤ length l.block.lines.items)
    × ((j : ℕ) → j < 32 → has l.all j ≡ false → All (λ (line : Line). breaks line (l.base + j) ≡ false) (drop l.left l.block.lines.items))

abbrev pub decreases-loop-left : goal.decreases-loop-left
decreases-loop-left l = l.left
