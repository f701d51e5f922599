use Rattle.im_select_relation.proofs.Lift.{lines}
use Rattle.im_select_relation.proofs.laws.lines_law.Goals as goal

pub returns : goal.returns
returns c = lines
