use Rattle.im_alloc_relation.proofs.Whole.{placed}
use Rattle.im_alloc_relation.proofs.laws.placed_law.Goals as goal

pub returns : goal.returns
returns c = placed
