use Rattle.std.proofs.Common.{refl}
use Rattle.im_typed.specs.Programs.{meaning}
use Rattle.im_store.specs.Numbers.{apply, apply_one}
use Rattle.im_num.specs.Kinds.{wrap, word}
use Rattle.im_typed.proofs.examples.input_and_output.Goals as goal

pub returns-clause-full : goal.returns-clause-full
unfolding meaning wrap word apply apply_one
returns-clause-full c = λ input. refl

pub returns-clause-empty : goal.returns-clause-empty
unfolding meaning wrap word apply apply_one
returns-clause-empty c = refl

pub returns-clause-one_byte : goal.returns-clause-one_byte
unfolding meaning wrap word apply apply_one
returns-clause-one_byte c = refl
