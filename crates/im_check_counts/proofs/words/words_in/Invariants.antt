use Rattle.std.proofs.Common.{◌≡◌, ◌+◌, drop}
use Rattle.im_rules_limits.specs.Limits.{words_in}
use Rattle.im_types.specs.Shape.{types_in}
use Rattle.im_check_counts.proofs.words.words_in.Given as goal

abbrev pub invariant-loop-parameter : goal.invariant-loop-parameter
invariant-loop-parameter l = l.total + words_in (types_in (drop l.parameter-index l.parameters)) ≡ words_in (types_in l.parameters)
