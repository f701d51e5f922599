use Rattle.im_alloc_intervals.specs.Scans.{AreBegun}
use Rattle.im_alloc_intervals.proofs.starts.begun.Given as goal

abbrev pub invariant-loop-register : goal.invariant-loop-register
invariant-loop-register l = AreBegun l.from l.register l.intervals l.starts.items
