use Rattle.im_pack_laws.proofs.Objects.{named}
use Rattle.im_pack_laws.proofs.laws.named_law.Goals as goal

pub returns : goal.returns
returns c = named
