use Rattle.im_alloc_intervals.specs.Marks.{Adds, Flags}
use Rattle.im_alloc_intervals.specs.Tables.{SetIn, PassedIn}
use Rattle.im_alloc_intervals.proofs.Stepping.{Under, Below}
use Rattle.im_alloc_intervals.proofs.tables.mark_lines.Given as goal

abbrev pub invariant-loop-b : goal.invariant-loop-b
invariant-loop-b l = record {
  set : Adds (Under (SetIn l.blocks l.places) l.b) l.initial.intervals l.intervals;
  passed : Flags (Below (PassedIn l.blocks) l.b) l.initial.arguments l.arguments;
}
