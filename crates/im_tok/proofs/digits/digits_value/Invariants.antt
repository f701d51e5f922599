use Rattle.std.proofs.Common.{◌≡◌, ◌<◌, ◌^◌, take}
use Rattle.im_tok.specs.Digits.{digits_value}
use Rattle.im_tok.proofs.digits.digits_value.Given as goal

abbrev pub invariant-loop-digit : goal.invariant-loop-digit
invariant-loop-digit l = (l.value ≡ digits_value l.radix (take l.digit-index l.digits)) × (l.value < 2 ^ 32)
