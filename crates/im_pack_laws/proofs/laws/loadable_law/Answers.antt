use Rattle.im_pack_laws.proofs.Front.{loadable}
use Rattle.im_pack_laws.proofs.laws.loadable_law.Goals as goal

pub returns : goal.returns
returns c = loadable
