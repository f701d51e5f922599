use Rattle.im_block_live.specs.Words.{groups_have}
use Rattle.im_forward.specs.Known.{LeavesOut}
use Rattle.im_forward.proofs.dead.leave_out_groups.Given as goal

abbrev pub invariant-loop-i : goal.invariant-loop-i
invariant-loop-i l = LeavesOut (groups_have l.groups) l.fn.block l.block
