use Rattle.im_gap.proofs.Lengths.{gap_law}
use Rattle.im_gap.proofs.laws.gap_law.Goals as goal

pub returns : goal.returns
returns c = gap_law
