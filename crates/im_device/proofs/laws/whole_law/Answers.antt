use Rattle.im_device.proofs.Untorn.{torn_none}
use Rattle.im_device.proofs.laws.whole_law.Goals as goal

pub returns : goal.returns
returns c = torn_none
