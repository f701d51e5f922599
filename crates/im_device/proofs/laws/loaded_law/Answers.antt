use Rattle.im_device.proofs.Loaded.{loaded_small}
use Rattle.im_device.proofs.laws.loaded_law.Goals as goal

pub returns : goal.returns
returns c = loaded_small
