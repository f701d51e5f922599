use Rattle.im_ctree.proofs.Derivations.{cast_derived, call_derived}
use Rattle.im_ctree.proofs.examples.cast_examples.Goals as goal

pub returns-clause-cast : goal.returns-clause-cast
returns-clause-cast c = cast_derived

pub returns-clause-call : goal.returns-clause-call
returns-clause-call c = call_derived
