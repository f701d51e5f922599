use Rattle.im_rv.proofs.Apart.{rows_apart}
use Rattle.im_rv.proofs.laws.rows_apart_law.Goals as goal

pub returns : goal.returns
returns c = rows_apart
