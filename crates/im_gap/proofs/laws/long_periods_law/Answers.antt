use Rattle.im_gap.proofs.Progress.{long_periods_law}
use Rattle.im_gap.proofs.laws.long_periods_law.Goals as goal

pub returns : goal.returns
returns c = long_periods_law
