use Rattle.im_rv.proofs.Changes.{ends_calm}
use Rattle.im_rv.proofs.laws.ends_calm_law.Goals as goal

pub returns : goal.returns
returns c = ends_calm
