use Rattle.im_alias.proofs.PointsAts.{sound_at}
use Rattle.im_alias.proofs.laws.points_at_law.Goals as goal

pub returns : goal.returns
returns c = sound_at
