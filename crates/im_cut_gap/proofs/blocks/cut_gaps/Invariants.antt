use Rattle.im_cut_gap.proofs.Whole.{GapsSoFar}
use Rattle.im_cut_gap.proofs.blocks.cut_gaps.Given as goal

-- the blocks from a number on are swept
abbrev pub invariant-loop-number : goal.invariant-loop-number
invariant-loop-number l = GapsSoFar l.most l.fn.function l.function l.number l.costs.items
