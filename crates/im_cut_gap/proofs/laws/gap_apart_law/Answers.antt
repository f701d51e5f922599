use Rattle.im_cut_gap.proofs.Gapping.{apart}
use Rattle.im_cut_gap.proofs.laws.gap_apart_law.Goals as goal

pub returns : goal.returns
returns c = apart
