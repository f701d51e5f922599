use Rattle.im_rv.proofs.Changes.{only_stores}
use Rattle.im_rv.proofs.laws.only_stores_law.Goals as goal

pub returns : goal.returns
returns c = only_stores
