use Rattle.im_block_live.specs.Words.{groups_have}
use Rattle.im_forward.specs.Straight.{Straightens}
use Rattle.im_block.proofs.Unitwise.{ZipTo}
use Rattle.im_forward.proofs.straight.straighten.Given as goal

-- lines of the blocks so far are straight, the others are as they were
abbrev pub invariant-loop-block : goal.invariant-loop-block
invariant-loop-block l = ZipTo (Straightens (groups_have l.groups)) l.block-index l.fn.function.blocks.items l.block-items
