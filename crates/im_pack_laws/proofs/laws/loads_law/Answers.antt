use Rattle.im_pack_laws.proofs.Memory.{loaded}
use Rattle.im_pack_laws.proofs.laws.loads_law.Goals as goal

pub returns : goal.returns
returns c = loaded
