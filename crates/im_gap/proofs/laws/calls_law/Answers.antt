use Rattle.im_gap.proofs.Calls.{calls_law}
use Rattle.im_gap.proofs.laws.calls_law.Goals as goal

pub returns : goal.returns
returns c = calls_law
