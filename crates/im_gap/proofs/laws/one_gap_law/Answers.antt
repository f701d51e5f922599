use Rattle.im_gap.proofs.Lengths.{one_gap_law}
use Rattle.im_gap.proofs.laws.one_gap_law.Goals as goal

pub returns : goal.returns
returns c = one_gap_law
