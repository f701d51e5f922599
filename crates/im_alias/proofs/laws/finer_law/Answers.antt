use Rattle.im_alias.proofs.Finers.{closed_at}
use Rattle.im_alias.proofs.laws.finer_law.Goals as goal

pub returns : goal.returns
returns c = closed_at
