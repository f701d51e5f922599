use Rattle.im_alloc_intervals.proofs.Scanning.{Scan}
use Rattle.im_alloc_intervals.proofs.scan.scan.Given as goal

abbrev pub invariant-loop-start : goal.invariant-loop-start
invariant-loop-start l = Scan l.parameters l.tables l.start-items l.start-index l.of.items l.taken
