use Rattle.std.proofs.Common.{◌<◌, ◌^◌, drop}
use Rattle.im_cmd_check.proofs.Numbers.{ReadsTo}
use Rattle.im_cmd_check.proofs.number.read_digits.Given as goal

abbrev pub invariant-loop-byte : goal.invariant-loop-byte
invariant-loop-byte l = ReadsTo l.digits l.value (drop l.byte-index l.digits) × (l.value < 2 ^ 32)
