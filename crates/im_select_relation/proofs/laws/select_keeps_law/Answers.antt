use Rattle.im_select_relation.proofs.Whole.{select}
use Rattle.im_select_relation.proofs.laws.select_keeps_law.Goals as goal

pub returns : goal.returns
returns c = select
