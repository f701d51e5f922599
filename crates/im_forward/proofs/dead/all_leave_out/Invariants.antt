use Rattle.im_block_live.specs.Words.{groups_have}
use Rattle.im_forward.specs.Known.{LeavesOut}
use Rattle.im_block.proofs.Unitwise.{ZipTo}
use Rattle.im_forward.proofs.dead.all_leave_out.Given as goal

-- copies are left out of the blocks so far, the others are as they were
abbrev pub invariant-loop-block : goal.invariant-loop-block
invariant-loop-block l = ZipTo (LeavesOut (groups_have l.groups)) l.block-index l.fn.function.blocks.items l.block-items
