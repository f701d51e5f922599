use Rattle.im_lower_laws.proofs.Whole.{written_first}
use Rattle.im_lower_laws.proofs.laws.written_first_law.Goals as goal

pub returns : goal.returns
returns c = written_first
