use Rattle.std.proofs.Common.{refl}
use Rattle.im_typed.specs.Programs.{meaning}
use Rattle.im_store.specs.Numbers.{apply, apply_one}
use Rattle.im_num.specs.Kinds.{wrap, word}
use Rattle.im_typed.proofs.examples.shifts.Goals as goal

pub returns-clause-arithmetic : goal.returns-clause-arithmetic
unfolding meaning wrap word apply apply_one
returns-clause-arithmetic c = λ input fuel. refl

pub returns-clause-count : goal.returns-clause-count
unfolding meaning wrap word apply apply_one
returns-clause-count c = λ input fuel. refl
