use Rattle.std.proofs.Common.{length}
use Rattle.im_power.proofs.Lines.{ReadsTo}
use Rattle.im_power.proofs.reading.read_trace.Given as goal

abbrev pub invariant-loop-text : goal.invariant-loop-text
invariant-loop-text l = ReadsTo l.bytes (length l.yielded) l.line l.tally.periods.items l.tally.repeats
