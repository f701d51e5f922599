use Rattle.im_ctree.proofs.Refusals.{assignment_refused}
use Rattle.im_ctree.proofs.examples.assignment_example.Goals as goal

pub returns : goal.returns
returns c = assignment_refused
