use Rattle.std.proofs.Common.{refl}
use Rattle.im_typed.specs.Programs.{meaning}
use Rattle.im_store.specs.Numbers.{apply, apply_one}
use Rattle.im_num.specs.Kinds.{wrap, word}
use Rattle.im_typed.proofs.examples.missing_result.Goals as goal

pub returns : goal.returns
unfolding meaning wrap word apply apply_one
returns c = λ input. refl
