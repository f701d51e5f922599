use Rattle.im_typed.proofs.SoundRuns.{meaning-right}
use Rattle.im_typed.proofs.laws.end_law.Goals as goal

pub returns : goal.returns
returns c = λ g input fuel typed bytes. meaning-right g typed input fuel bytes
