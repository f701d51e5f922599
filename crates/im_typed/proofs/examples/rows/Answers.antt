use Rattle.std.proofs.Common.{refl}
use Rattle.im_typed.specs.Programs.{meaning}
use Rattle.im_store.specs.Numbers.{apply, apply_one}
use Rattle.im_num.specs.Kinds.{wrap, word}
use Rattle.im_typed.proofs.examples.rows.Goals as goal

pub returns-clause-next_row : goal.returns-clause-next_row
unfolding meaning wrap word apply apply_one
returns-clause-next_row c = λ input fuel. refl

pub returns-clause-past_the_end : goal.returns-clause-past_the_end
unfolding meaning wrap word apply apply_one
returns-clause-past_the_end c = λ input fuel. refl

pub returns-clause-outside : goal.returns-clause-outside
unfolding meaning wrap word apply apply_one
returns-clause-outside c = λ input fuel. refl
