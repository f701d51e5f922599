use Rattle.im_cut_gap.proofs.Further.{further}
use Rattle.im_cut_gap.proofs.laws.further_law.Goals as goal

pub returns : goal.returns
returns c = further
