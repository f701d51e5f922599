use Rattle.im_gap.proofs.Bounded.{bounded}
use Rattle.im_gap.proofs.bound.gap_bound_law.Goals as goal

pub returns : goal.returns
returns c = bounded
