use Rattle.im_ctree.proofs.Derivations.{parameter_derived}
use Rattle.im_ctree.proofs.examples.parameter_example.Goals as goal

pub returns : goal.returns
returns c = parameter_derived
