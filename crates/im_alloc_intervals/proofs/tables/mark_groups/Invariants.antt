use Rattle.im_alloc_intervals.specs.Marks.{Adds, Flags}
use Rattle.im_alloc_intervals.specs.Tables.{LivingOf, CrossingOf}
use Rattle.im_alloc_intervals.proofs.Stepping.{Under, Below}
use Rattle.im_alloc_intervals.proofs.tables.mark_groups.Given as goal

abbrev pub invariant-loop-g : goal.invariant-loop-g
invariant-loop-g l = record {
  living : Adds (Under (LivingOf l.groups l.blocks l.places) l.g) l.initial.intervals l.intervals;
  crossing : Flags (Below (CrossingOf l.groups l.blocks) l.g) l.initial.slotted l.slotted;
}
