use Rattle.im_select_relation.proofs.Lift.{frame}
use Rattle.im_select_relation.proofs.laws.frame_law.Goals as goal

pub returns : goal.returns
returns c = frame
