use Rattle.im_keeps_source.proofs.Promises.{promises}
use Rattle.im_keeps_source.proofs.lowering.lowers_law.Goals as goal

pub returns : goal.returns
returns c = promises c.lower_keeps_law.ensures c.lowered_form_law.ensures
