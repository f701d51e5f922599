use Rattle.im_cut.proofs.Greedies.{apart}
use Rattle.im_cut.proofs.laws.apart_law.Goals as goal

pub returns : goal.returns
returns c = apart
