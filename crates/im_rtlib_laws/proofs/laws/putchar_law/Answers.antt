use Rattle.im_rtlib_laws.proofs.Serving.{putchar_law}
use Rattle.im_rtlib_laws.proofs.laws.putchar_law.Goals as goal

pub returns : goal.returns
returns c = putchar_law
