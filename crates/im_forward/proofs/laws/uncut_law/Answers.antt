use Rattle.im_forward.proofs.Chained.{uncut_holds}
use Rattle.im_forward.proofs.laws.uncut_law.Goals as goal

pub returns : goal.returns
returns c = uncut_holds
