use Rattle.std.proofs.Common.{refl}
use Rattle.im_typed.specs.Programs.{meaning}
use Rattle.im_store.specs.Numbers.{apply, apply_one}
use Rattle.im_num.specs.Kinds.{wrap, word}
use Rattle.im_typed.proofs.examples.recursive_main.Goals as goal

pub returns-clause-paid : goal.returns-clause-paid
unfolding meaning wrap word apply apply_one
returns-clause-paid c = λ input. (refl, refl)

pub returns-clause-unpaid : goal.returns-clause-unpaid
unfolding meaning wrap word apply apply_one
returns-clause-unpaid c = λ input. refl
