use Rattle.im_alloc_intervals.specs.Marks.{Flags}
use Rattle.im_alloc_intervals.specs.Tables.{EnteringOf}
use Rattle.im_alloc_intervals.proofs.Stepping.{Below}
use Rattle.im_alloc_intervals.proofs.tables.flag_entering.Given as goal

abbrev pub invariant-loop-g : goal.invariant-loop-g
invariant-loop-g l = Flags (Below (EnteringOf l.groups l.entry) l.g) l.initial.slotted l.slotted
