use Rattle.im_alloc_intervals.specs.Marks.{Flags}
use Rattle.im_alloc_intervals.specs.Lines.{CrossedBy}
use Rattle.im_alloc_intervals.proofs.Stepping.{Below}
use Rattle.im_alloc_intervals.proofs.lines.flag_across.Given as goal

abbrev pub invariant-loop-i : goal.invariant-loop-i
invariant-loop-i l = Flags (Below (CrossedBy l.base l.words l.lines) l.i) l.initial.flags l.flags
