use Rattle.im_gap.proofs.Rows.{step_law}
use Rattle.im_gap.proofs.laws.step_law.Goals as goal

pub returns : goal.returns
returns c = step_law
