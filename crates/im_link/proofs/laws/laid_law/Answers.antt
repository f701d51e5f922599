use Rattle.im_link.proofs.Laying.{laid_law}
use Rattle.im_link.proofs.laws.laid_law.Goals as goal

pub returns : goal.returns
returns c = laid_law
