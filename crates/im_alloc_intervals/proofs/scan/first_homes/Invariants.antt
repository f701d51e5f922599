use Rattle.im_alloc_intervals.specs.Scans.{AreFirst}
use Rattle.im_alloc_intervals.proofs.scan.first_homes.Given as goal

abbrev pub invariant-loop-parameter : goal.invariant-loop-parameter
invariant-loop-parameter l = AreFirst l.parameter l.count l.of.items
