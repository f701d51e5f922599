use Rattle.im_alias.proofs.Leasts.{least}
use Rattle.im_alias.proofs.laws.least_law.Goals as goal

pub returns : goal.returns
returns c = least
