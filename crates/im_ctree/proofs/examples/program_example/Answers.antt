use Rattle.im_ctree.proofs.Derivations.{program_derived}
use Rattle.im_ctree.proofs.examples.program_example.Goals as goal

pub returns : goal.returns
returns c = program_derived
