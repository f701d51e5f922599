use Rattle.im_saved_code.proofs.Whole.{live_code}
use Rattle.im_saved_code.proofs.laws.live_code_law.Goals as goal

pub returns : goal.returns
returns c = live_code
