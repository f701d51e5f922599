use Rattle.im_cut_gap.proofs.Gapping.{same}
use Rattle.im_cut_gap.proofs.laws.gap_same_law.Goals as goal

pub returns : goal.returns
returns c = same
