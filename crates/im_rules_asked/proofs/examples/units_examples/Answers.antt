use Rattle.std.proofs.Common.{refl}
use Rattle.im_num.specs.Kinds.{wrap}
use Rattle.im_store.specs.Numbers.{apply}
use Rattle.im_rules_asked.proofs.examples.units_examples.Goals as goal

-- the value of the length
pub returns-clause-keeps_15 : goal.returns-clause-keeps_15
unfolding wrap apply
returns-clause-keeps_15 c = refl
