use Rattle.std.proofs.Common.{refl}
use Rattle.im_ctree.proofs.Derivations.{scope_derived}
use Rattle.im_ctree.proofs.examples.scope_example.Goals as goal

pub returns-clause-derived : goal.returns-clause-derived
returns-clause-derived c = scope_derived

pub returns-clause-behind : goal.returns-clause-behind
returns-clause-behind c = λ names t x. refl
