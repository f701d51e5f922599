use Rattle.std.proofs.Common.{◌-◌, length}
use Rattle.im_block_live.specs.Words.{groups_have}
use Rattle.im_forward.proofs.Straightening.{BecomesTo}
use Rattle.im_forward.proofs.straight.straighten_block.Given as goal

-- whatever the lines behind become, the block becomes the lines so far and that
abbrev pub invariant-loop-i : goal.invariant-loop-i
invariant-loop-i l = BecomesTo (groups_have l.groups) l.fn.block.exit l.fn.block.lines.items l.i l.kept.items

abbrev pub decreases-loop-i : goal.decreases-loop-i
decreases-loop-i l = length l.fn.block.lines.items - l.i
