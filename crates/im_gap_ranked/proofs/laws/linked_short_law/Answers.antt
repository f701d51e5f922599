use Rattle.im_gap_ranked.proofs.Short.{linked_short}
use Rattle.im_gap_ranked.proofs.laws.linked_short_law.Goals as goal

pub returns : goal.returns
returns c = linked_short
