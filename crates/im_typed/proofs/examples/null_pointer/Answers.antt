use Rattle.std.proofs.Common.{refl}
use Rattle.im_typed.specs.Programs.{meaning}
use Rattle.im_store.specs.Numbers.{apply, apply_one}
use Rattle.im_num.specs.Kinds.{wrap, word}
use Rattle.im_typed.proofs.examples.null_pointer.Goals as goal

pub returns-clause-address_of_target : goal.returns-clause-address_of_target
unfolding meaning wrap word apply apply_one
returns-clause-address_of_target c = λ input fuel. refl

pub returns-clause-address_of_element : goal.returns-clause-address_of_element
unfolding meaning wrap word apply apply_one
returns-clause-address_of_element c = λ input fuel. refl

pub returns-clause-value : goal.returns-clause-value
unfolding meaning wrap word apply apply_one
returns-clause-value c = λ input fuel. refl

pub returns-clause-member : goal.returns-clause-member
unfolding meaning wrap word apply apply_one
returns-clause-member c = λ input fuel. refl
