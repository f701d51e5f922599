use Rattle.im_ctree.proofs.Derivations.{else_derived, do_derived}
use Rattle.im_ctree.proofs.examples.statement_examples.Goals as goal

pub returns-clause-else_of_inner : goal.returns-clause-else_of_inner
returns-clause-else_of_inner c = else_derived

pub returns-clause-do_while : goal.returns-clause-do_while
returns-clause-do_while c = do_derived
