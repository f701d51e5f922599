use Rattle.im_rtlib_laws.proofs.Reading.{getchar_law}
use Rattle.im_rtlib_laws.proofs.laws.getchar_law.Goals as goal

pub returns : goal.returns
returns c = getchar_law
