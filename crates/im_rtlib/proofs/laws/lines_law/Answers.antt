use Rattle.im_rtlib.proofs.Naming.{lines_law}
use Rattle.im_rtlib.proofs.laws.lines_law.Goals as goal

pub returns : goal.returns
returns c = lines_law
