use Rattle.im_gap_ranked.proofs.Sums.{linked_gap}
use Rattle.im_gap_ranked.proofs.laws.linked_gap_law.Goals as goal

pub returns : goal.returns
returns c = linked_gap
