use Rattle.im_device.proofs.Loaded.{booted}
use Rattle.im_device.proofs.laws.boot_law.Goals as goal

pub returns : goal.returns
returns c = booted
