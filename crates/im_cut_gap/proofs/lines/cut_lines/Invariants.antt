use Rattle.std.proofs.Common.{take}
use Rattle.im_cut_gap.proofs.Passing.{SweptSoFar}
use Rattle.im_cut_gap.proofs.lines.cut_lines.Given as goal

-- the lines so far are swept
abbrev pub invariant-loop-line : goal.invariant-loop-line
invariant-loop-line l = SweptSoFar l.most l.fn.start l.cost (take l.line-index l.lines) l.cut.items
