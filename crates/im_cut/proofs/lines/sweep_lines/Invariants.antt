use Rattle.std.proofs.Common.{take}
use Rattle.im_cut.specs.Sweep.{Marks}
use Rattle.im_cut.specs.Stands.{Stands}
use Rattle.im_cut.specs.Lines.{LinesSwept}
use Rattle.im_cut.proofs.lines.sweep_lines.Given as goal

-- the lines so far are swept
abbrev pub invariant-loop-line : goal.invariant-loop-line
invariant-loop-line l =
    (m : Marks) → Stands l.tags l.initial.marks m → LinesSwept l.tags m l.marks (take l.line-index l.lines) l.cut.items l.initial.deps.items l.deps.items
