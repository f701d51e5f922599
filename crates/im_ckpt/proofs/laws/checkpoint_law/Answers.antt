use Rattle.im_ckpt.proofs.Checkpoints.{checkpoint_law}
use Rattle.im_ckpt.proofs.laws.checkpoint_law.Goals as goal

pub returns : goal.returns
returns c = checkpoint_law
