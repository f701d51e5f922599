use Rattle.im_pack_laws.proofs.Front.{packed}
use Rattle.im_pack_laws.proofs.laws.packed_law.Goals as goal

pub returns : goal.returns
returns c = packed
