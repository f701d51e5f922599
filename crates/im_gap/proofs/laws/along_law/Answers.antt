use Rattle.im_gap.proofs.Along.{along_law}
use Rattle.im_gap.proofs.laws.along_law.Goals as goal

pub returns : goal.returns
returns c = along_law
