use Rattle.im_select_addresses.proofs.Lying.{laid}
use Rattle.im_select_addresses.proofs.laws.statics_law.Goals as goal

pub returns : goal.returns
returns c = laid
