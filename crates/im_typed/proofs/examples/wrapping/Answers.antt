use Rattle.std.proofs.Common.{refl}
use Rattle.im_typed.specs.Programs.{meaning}
use Rattle.im_store.specs.Numbers.{apply, apply_one}
use Rattle.im_num.specs.Kinds.{wrap, word}
use Rattle.im_typed.proofs.examples.wrapping.Goals as goal

pub returns-clause-conversion : goal.returns-clause-conversion
unfolding meaning wrap word apply apply_one
returns-clause-conversion c = λ input fuel. refl

pub returns-clause-sum : goal.returns-clause-sum
unfolding meaning wrap word apply apply_one
returns-clause-sum c = λ input fuel. refl
