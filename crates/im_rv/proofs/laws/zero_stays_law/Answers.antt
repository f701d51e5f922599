use Rattle.im_rv.proofs.Changes.{zero_stays}
use Rattle.im_rv.proofs.laws.zero_stays_law.Goals as goal

pub returns : goal.returns
returns c = zero_stays
