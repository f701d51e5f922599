use Rattle.im_rtlib_laws.proofs.Joining.{joins_law}
use Rattle.im_rtlib_laws.proofs.touches.joins_law.Goals as goal

pub returns : goal.returns
returns c = joins_law
