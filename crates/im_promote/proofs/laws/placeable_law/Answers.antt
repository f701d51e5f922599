use Rattle.im_promote.proofs.Placeables.{placeable_all}
use Rattle.im_promote.proofs.laws.placeable_law.Goals as goal

pub returns : goal.returns
returns c = placeable_all
