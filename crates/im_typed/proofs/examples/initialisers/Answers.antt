use Rattle.std.proofs.Common.{refl}
use Rattle.im_typed.specs.Programs.{meaning}
use Rattle.im_store.specs.Numbers.{apply, apply_one}
use Rattle.im_num.specs.Kinds.{wrap, word}
use Rattle.im_typed.proofs.examples.initialisers.Goals as goal

pub returns-clause-in_order : goal.returns-clause-in_order
unfolding meaning wrap word apply apply_one
returns-clause-in_order c = λ input fuel. refl

pub returns-clause-nested : goal.returns-clause-nested
unfolding meaning wrap word apply apply_one
returns-clause-nested c = λ input fuel. refl

pub returns-clause-from_itself : goal.returns-clause-from_itself
unfolding meaning wrap word apply apply_one
returns-clause-from_itself c = λ input fuel. refl
