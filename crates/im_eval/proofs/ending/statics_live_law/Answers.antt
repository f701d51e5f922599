use Rattle.im_eval.proofs.Living.{statics_live}
use Rattle.im_eval.proofs.ending.statics_live_law.Goals as goal

pub returns : goal.returns
returns c = λ g input fuel typed bytes. statics_live g typed input fuel bytes
