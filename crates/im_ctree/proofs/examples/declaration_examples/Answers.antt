use Rattle.im_ctree.proofs.Derivations.{grouped_derived, nothing_derived}
use Rattle.im_ctree.proofs.examples.declaration_examples.Goals as goal

pub returns-clause-nothing : goal.returns-clause-nothing
returns-clause-nothing c = nothing_derived

pub returns-clause-grouped : goal.returns-clause-grouped
returns-clause-grouped c = grouped_derived
