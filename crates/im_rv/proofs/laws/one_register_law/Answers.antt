use Rattle.im_rv.proofs.Changes.{one_register}
use Rattle.im_rv.proofs.laws.one_register_law.Goals as goal

pub returns : goal.returns
returns c = one_register
