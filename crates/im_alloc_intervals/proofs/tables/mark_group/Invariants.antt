use Rattle.im_alloc_intervals.specs.Marks.{Adds, Flags}
use Rattle.im_alloc_intervals.specs.Tables.{LivingIn, CrossingIn}
use Rattle.im_alloc_intervals.proofs.Stepping.{Under, Below}
use Rattle.im_alloc_intervals.proofs.tables.mark_group.Given as goal

abbrev pub invariant-loop-b : goal.invariant-loop-b
invariant-loop-b l = record {
  living : Adds (Under (LivingIn l.base l.starts l.blocks l.places) l.b) l.initial.intervals l.intervals;
  crossing : Flags (Below (CrossingIn l.base l.starts l.blocks) l.b) l.initial.slotted l.slotted;
}
