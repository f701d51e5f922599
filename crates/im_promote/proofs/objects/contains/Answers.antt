use Rattle.std.proofs.Common.{ap}
use Rattle.std.specs.Prelude.{◌==◌}
use Rattle.std.proofs.lemmas.Nat.Bits.{shr_and_one}
use Rattle.im_promote.proofs.objects.contains.Goals as goal

pub returns : goal.returns
returns c = ap (λ z. z == 1) (shr_and_one c.args.word c.args.bit)
