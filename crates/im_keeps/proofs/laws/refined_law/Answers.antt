use Rattle.im_keeps.proofs.Refined.{refined}
use Rattle.im_keeps.proofs.laws.refined_law.Goals as goal

pub returns : goal.returns
returns c = refined
