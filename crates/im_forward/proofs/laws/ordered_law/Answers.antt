use Rattle.im_forward.proofs.Chained.{ordered_holds}
use Rattle.im_forward.proofs.laws.ordered_law.Goals as goal

pub returns : goal.returns
returns c = ordered_holds
