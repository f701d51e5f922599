use Rattle.im_rv.proofs.Effecting.{bytes_stay}
use Rattle.im_rv.proofs.laws.bytes_stay_law.Goals as goal

pub returns : goal.returns
returns c = bytes_stay
