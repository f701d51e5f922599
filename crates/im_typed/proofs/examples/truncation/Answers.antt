use Rattle.std.proofs.Common.{refl}
use Rattle.im_typed.specs.Programs.{meaning}
use Rattle.im_store.specs.Numbers.{apply, apply_one}
use Rattle.im_num.specs.Kinds.{wrap, word}
use Rattle.im_typed.proofs.examples.truncation.Goals as goal

pub returns-clause-quotient : goal.returns-clause-quotient
unfolding meaning wrap word apply apply_one
returns-clause-quotient c = λ input fuel. refl

pub returns-clause-remainder : goal.returns-clause-remainder
unfolding meaning wrap word apply apply_one
returns-clause-remainder c = λ input fuel. refl
