use Rattle.im_alloc_intervals.specs.Marks.{Adds}
use Rattle.im_alloc_intervals.specs.Lines.{SetBy}
use Rattle.im_alloc_intervals.proofs.Stepping.{Under}
use Rattle.im_alloc_intervals.proofs.lines.touch_targets.Given as goal

abbrev pub invariant-loop-i : goal.invariant-loop-i
invariant-loop-i l = Adds (Under (SetBy l.lines l.start) l.i) l.initial.table l.table
