use Rattle.std.proofs.Common.{refl}
use Rattle.im_typed.specs.Programs.{meaning}
use Rattle.im_store.specs.Numbers.{apply, apply_one}
use Rattle.im_num.specs.Kinds.{wrap, word}
use Rattle.im_typed.proofs.examples.struct_copies.Goals as goal

pub returns-clause-itself : goal.returns-clause-itself
unfolding meaning wrap word apply apply_one
returns-clause-itself c = λ input fuel. refl

pub returns-clause-in_part : goal.returns-clause-in_part
unfolding meaning wrap word apply apply_one
returns-clause-in_part c = λ input fuel. refl

pub returns-clause-apart : goal.returns-clause-apart
unfolding meaning wrap word apply apply_one
returns-clause-apart c = λ input fuel. refl
