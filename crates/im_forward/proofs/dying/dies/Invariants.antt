use Rattle.im_block_live.specs.Words.{groups_have}
use Rattle.im_forward.proofs.Deaths.{DiesBy}
use Rattle.im_forward.proofs.dying.dies.Given as goal

abbrev pub invariant-loop-i : goal.invariant-loop-i
invariant-loop-i l = DiesBy (groups_have l.groups) l.block.exit l.block.lines.items l.first l.register l.i
