use Rattle.im_block_laws.proofs.Points.{sound}
use Rattle.im_block_laws.proofs.laws.points_law.Goals as goal

pub returns : goal.returns
returns c = sound
