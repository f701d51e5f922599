use Rattle.im_rtlib_laws.proofs.Tracing.{touched_law}
use Rattle.im_rtlib_laws.proofs.touches.touched_law.Goals as goal

pub returns : goal.returns
returns c = touched_law
