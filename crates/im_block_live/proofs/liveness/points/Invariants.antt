use Rattle.im_block_live.proofs.Pointed.{PointsFrom}
use Rattle.im_block_live.proofs.liveness.points.Given as goal

abbrev pub invariant-loop-left : goal.invariant-loop-left
invariant-loop-left l = PointsFrom l.base l.starts l.block.lines.items l.block.exit l.words.items l.left

abbrev pub decreases-loop-left : goal.decreases-loop-left
decreases-loop-left l = l.left
