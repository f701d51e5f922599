use Rattle.im_rtlib_laws.proofs.Ends.{stack_law}
use Rattle.im_rtlib_laws.proofs.laws.stack_law.Goals as goal

pub returns : goal.returns
returns c = stack_law
