use Rattle.im_forward.proofs.Chained.{costs}
use Rattle.im_forward.proofs.laws.cost_law.Goals as goal

pub returns : goal.returns
returns c = costs
