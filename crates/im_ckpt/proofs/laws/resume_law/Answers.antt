use Rattle.im_ckpt.proofs.Resume.{resume}
use Rattle.im_ckpt.proofs.laws.resume_law.Goals as goal

pub returns : goal.returns
returns c = resume
