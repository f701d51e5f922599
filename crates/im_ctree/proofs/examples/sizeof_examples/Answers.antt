use Rattle.im_ctree.proofs.Derivations.{sizeof_type_derived, sizeof_expression_derived}
use Rattle.im_ctree.proofs.examples.sizeof_examples.Goals as goal

pub returns-clause-of_type : goal.returns-clause-of_type
returns-clause-of_type c = sizeof_type_derived

pub returns-clause-of_expression : goal.returns-clause-of_expression
returns-clause-of_expression c = sizeof_expression_derived
