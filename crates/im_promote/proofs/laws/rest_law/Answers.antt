use Rattle.im_promote.proofs.Rest.{rest}
use Rattle.im_promote.proofs.laws.rest_law.Goals as goal

pub returns : goal.returns
returns c = rest
