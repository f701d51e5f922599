use Rattle.im_gap.proofs.Walking.{rank_law}
use Rattle.im_gap.proofs.laws.rank_law.Goals as goal

pub returns : goal.returns
returns c = rank_law
