use Rattle.im_cut.proofs.Tables.{CutSoFar}
use Rattle.im_cut.proofs.blocks.cut_in.Given as goal

-- the blocks from a number on are swept
abbrev pub invariant-loop-number : goal.invariant-loop-number
invariant-loop-number l = CutSoFar l.tags l.fn.function l.function l.number l.table.items l.deps.items
