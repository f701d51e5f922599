use Rattle.std.proofs.Common.{refl}
use Rattle.im_num.specs.Kinds.{wrap}
use Rattle.im_rules_asked.proofs.examples.operators_examples.Goals as goal

-- the values of the labels
pub returns-clause-keeps_34 : goal.returns-clause-keeps_34
unfolding wrap
returns-clause-keeps_34 c = refl
