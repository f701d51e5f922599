use Rattle.im_saved.proofs.Backward.{live_law}
use Rattle.im_saved.proofs.laws.live_law.Goals as goal

pub returns : goal.returns
returns c = live_law
