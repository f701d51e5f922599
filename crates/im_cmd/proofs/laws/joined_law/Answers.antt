use Rattle.im_cmd.proofs.Joining.{joined}
use Rattle.im_cmd.proofs.laws.joined_law.Goals as goal

pub returns : goal.returns
returns c = joined
