use Rattle.im_rv.proofs.Apart.{rows_reached}
use Rattle.im_rv.proofs.laws.rows_reached_law.Goals as goal

pub returns : goal.returns
returns c = rows_reached
