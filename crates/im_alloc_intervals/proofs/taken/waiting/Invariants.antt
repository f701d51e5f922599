use Rattle.im_alloc_intervals.specs.Scans.{AreWaiting}
use Rattle.im_alloc_intervals.proofs.taken.waiting.Given as goal

abbrev pub invariant-loop-parameter : goal.invariant-loop-parameter
invariant-loop-parameter l = AreWaiting l.parameter l.intervals l.registers
