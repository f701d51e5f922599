use Rattle.std.proofs.Common.{◌<◌, ◌^◌, drop}
use Rattle.im_power.proofs.Numbers.{ReadsTo}
use Rattle.im_power.proofs.line.read_number.Given as goal

abbrev pub invariant-loop-byte : goal.invariant-loop-byte
invariant-loop-byte l = ReadsTo l.field l.value (drop l.byte-index l.field) × (l.value < 2 ^ 32)
