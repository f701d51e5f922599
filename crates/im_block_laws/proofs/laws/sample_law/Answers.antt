use Rattle.std.proofs.Common.{refl}
use Rattle.im_num.specs.Kinds.{wrap, word}
use Rattle.im_store.specs.Numbers.{apply, apply_one}
use Rattle.im_block_laws.proofs.Premises.{ordered, well_formed}
use Rattle.im_block_laws.proofs.laws.sample_law.Goals as goal

pub returns : goal.returns
unfolding wrap word apply apply_one
returns c = λ memory. (
  record { ordered = ordered memory; well_formed = well_formed memory },
  record { ends = refl; wants = refl; exhausted = refl },
)
