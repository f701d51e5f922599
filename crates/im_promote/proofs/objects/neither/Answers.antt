use Rattle.std.proofs.Common.{ap, ◌∙◌}
use Rattle.std.specs.Prelude.{not, bit_or}
use Rattle.std.proofs.lemmas.Nat.{or_lt}
use Rattle.im_promote.proofs.Bits.{has_not, has_or}
use Rattle.im_promote.proofs.objects.neither.Goals as goal

pub returns : goal.returns
returns c j lt =
    has_not (bit_or c.args.first c.args.second) j (or_lt 32 c.args.first c.args.second c.ranges.first.fits c.ranges.second.fits) lt
    ∙ ap not (has_or c.args.first c.args.second j)
