use Rattle.im_link_laws.proofs.Standing.{stand}
use Rattle.im_link_laws.proofs.laws.stand_law.Goals as goal

pub returns : goal.returns
returns c = stand
