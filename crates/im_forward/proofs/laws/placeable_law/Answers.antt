use Rattle.im_forward.proofs.Chained.{placeable_holds}
use Rattle.im_forward.proofs.laws.placeable_law.Goals as goal

pub returns : goal.returns
returns c = placeable_holds
