use Rattle.std.proofs.Common.{length}
use Rattle.im_cmd_check.specs.Reading.{reading_of}
use Rattle.im_cmd_check.proofs.Lines.{ReadsTo}
use Rattle.im_cmd_check.proofs.reading.presumed.Given as goal

abbrev pub invariant-loop-line : goal.invariant-loop-line
invariant-loop-line l = ReadsTo l.name l.text (length l.yielded) (reading_of l.reading)
