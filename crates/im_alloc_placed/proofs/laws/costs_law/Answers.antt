use Rattle.im_alloc_placed.proofs.Costs.{costs}
use Rattle.im_alloc_placed.proofs.laws.costs_law.Goals as goal

pub returns : goal.returns
returns c = costs
