use Rattle.im_power.proofs.Written.{written}
use Rattle.im_power.proofs.laws.written_law.Goals as goal

pub returns : goal.returns
returns c = written
