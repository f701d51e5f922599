use Rattle.im_cut.proofs.Greedies.{same}
use Rattle.im_cut.proofs.laws.same_law.Goals as goal

pub returns : goal.returns
returns c = same
