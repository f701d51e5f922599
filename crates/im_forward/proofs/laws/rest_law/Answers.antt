use Rattle.im_forward.proofs.Rest.{rest}
use Rattle.im_forward.proofs.laws.rest_law.Goals as goal

pub returns : goal.returns
returns c = rest
