use Rattle.std.proofs.Common.{refl}
use Rattle.im_num.specs.Kinds.{wrap}
use Rattle.im_rules_asked.proofs.examples.typed_examples.Goals as goal

-- the values of the labels
pub returns-clause-switch : goal.returns-clause-switch
unfolding wrap
returns-clause-switch c = refl
