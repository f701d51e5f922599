use Rattle.im_rtlib_laws.proofs.Assumed.{serves_law}
use Rattle.im_rtlib_laws.proofs.laws.serves_law.Goals as goal

pub returns : goal.returns
returns c = serves_law
