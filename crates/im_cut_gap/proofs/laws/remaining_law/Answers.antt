use Rattle.im_cut_gap.proofs.Remaining.{remaining}
use Rattle.im_cut_gap.proofs.laws.remaining_law.Goals as goal

pub returns : goal.returns
returns c = remaining
