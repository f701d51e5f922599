use Rattle.std.proofs.Common.{refl}
use Rattle.im_typed.specs.Programs.{meaning}
use Rattle.im_store.specs.Numbers.{apply, apply_one}
use Rattle.im_num.specs.Kinds.{wrap, word}
use Rattle.im_typed.proofs.examples.dead_pointers.Goals as goal

pub returns-clause-read : goal.returns-clause-read
unfolding meaning wrap word apply apply_one
returns-clause-read c = λ input. refl

pub returns-clause-used : goal.returns-clause-used
unfolding meaning wrap word apply apply_one
returns-clause-used c = λ input. refl
