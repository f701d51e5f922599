use Rattle.std.proofs.Common.{refl}
use Rattle.im_typed.specs.Programs.{meaning}
use Rattle.im_store.specs.Numbers.{apply, apply_one}
use Rattle.im_num.specs.Kinds.{wrap, word}
use Rattle.im_typed.proofs.examples.struct_access.Goals as goal

pub returns-clause-element : goal.returns-clause-element
unfolding meaning wrap word apply apply_one
returns-clause-element c = λ input fuel. refl

pub returns-clause-across : goal.returns-clause-across
unfolding meaning wrap word apply apply_one
returns-clause-across c = λ input fuel. refl

pub returns-clause-behind : goal.returns-clause-behind
unfolding meaning wrap word apply apply_one
returns-clause-behind c = λ input fuel. refl

pub returns-clause-outside : goal.returns-clause-outside
unfolding meaning wrap word apply apply_one
returns-clause-outside c = λ input fuel. refl

pub returns-clause-unset : goal.returns-clause-unset
unfolding meaning wrap word apply apply_one
returns-clause-unset c = λ input fuel. refl
