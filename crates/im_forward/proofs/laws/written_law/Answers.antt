use Rattle.im_forward.proofs.Chained.{written}
use Rattle.im_forward.proofs.laws.written_law.Goals as goal

pub returns : goal.returns
returns c = written
