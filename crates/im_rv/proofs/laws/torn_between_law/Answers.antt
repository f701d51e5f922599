use Rattle.im_rv.proofs.Effecting.{torn_between}
use Rattle.im_rv.proofs.laws.torn_between_law.Goals as goal

pub returns : goal.returns
returns c = torn_between
