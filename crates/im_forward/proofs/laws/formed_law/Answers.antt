use Rattle.im_forward.proofs.Chained.{formed_holds}
use Rattle.im_forward.proofs.laws.formed_law.Goals as goal

pub returns : goal.returns
returns c = formed_holds
