use Rattle.im_rtlib_laws.proofs.Ends.{exit_law}
use Rattle.im_rtlib_laws.proofs.laws.exit_law.Goals as goal

pub returns : goal.returns
returns c = exit_law
