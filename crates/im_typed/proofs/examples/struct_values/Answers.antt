use Rattle.std.proofs.Common.{refl}
use Rattle.im_typed.specs.Programs.{meaning}
use Rattle.im_store.specs.Numbers.{apply, apply_one}
use Rattle.im_num.specs.Kinds.{wrap, word}
use Rattle.im_typed.proofs.examples.struct_values.Goals as goal

pub returns-clause-first : goal.returns-clause-first
unfolding meaning wrap word apply apply_one
returns-clause-first c = λ input fuel. refl

pub returns-clause-second : goal.returns-clause-second
unfolding meaning wrap word apply apply_one
returns-clause-second c = λ input fuel. refl

pub returns-clause-itself : goal.returns-clause-itself
unfolding meaning wrap word apply apply_one
returns-clause-itself c = λ input fuel. refl
