use Rattle.std.proofs.Common.{◌≡◌, drop}
use Rattle.im_typed.specs.Meaning.{is_among}
use Rattle.im_lower.proofs.initialise.is_among.Given as goal

abbrev pub invariant-loop-at : goal.invariant-loop-at
invariant-loop-at l = is_among l.offset (drop l.at-index l.given) ≡ is_among l.offset l.given
