use Rattle.std.proofs.Common.{refl}
use Rattle.im_typed.specs.Programs.{meaning}
use Rattle.im_store.specs.Numbers.{apply, apply_one}
use Rattle.im_num.specs.Kinds.{wrap, word}
use Rattle.im_typed.proofs.examples.pointers.Goals as goal

pub returns-clause-difference : goal.returns-clause-difference
unfolding meaning wrap word apply apply_one
returns-clause-difference c = λ input fuel. refl

pub returns-clause-less : goal.returns-clause-less
unfolding meaning wrap word apply apply_one
returns-clause-less c = λ input fuel. refl

pub returns-clause-not_less : goal.returns-clause-not_less
unfolding meaning wrap word apply apply_one
returns-clause-not_less c = λ input fuel. refl

pub returns-clause-two_objects : goal.returns-clause-two_objects
unfolding meaning wrap word apply apply_one
returns-clause-two_objects c = λ input fuel. refl
