use Rattle.im_forward.proofs.Chained.{forward_holds}
use Rattle.im_forward.proofs.laws.forward_law.Goals as goal

pub returns : goal.returns
returns c = forward_holds
