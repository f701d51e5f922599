use Rattle.std.proofs.Common.{refl}
use Rattle.im_typed.specs.Programs.{meaning}
use Rattle.im_store.specs.Numbers.{apply, apply_one}
use Rattle.im_num.specs.Kinds.{wrap, word}
use Rattle.im_typed.proofs.examples.order_by_kind.Goals as goal

pub returns-clause-signed : goal.returns-clause-signed
unfolding meaning wrap word apply apply_one
returns-clause-signed c = λ input. refl

pub returns-clause-unsigned : goal.returns-clause-unsigned
unfolding meaning wrap word apply apply_one
returns-clause-unsigned c = λ input. refl
