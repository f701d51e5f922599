use Rattle.im_alloc_intervals.specs.Marks.{Flags}
use Rattle.im_alloc_intervals.specs.Lines.{PassedBy}
use Rattle.im_alloc_intervals.proofs.Stepping.{Below}
use Rattle.im_alloc_intervals.proofs.lines.flag_arguments.Given as goal

abbrev pub invariant-loop-line : goal.invariant-loop-line
invariant-loop-line l = Flags (Below (PassedBy l.lines) l.line-index) l.initial.flags l.flags
