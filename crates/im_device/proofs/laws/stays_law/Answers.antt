use Rattle.im_device.proofs.Runs.{power_over}
use Rattle.im_device.proofs.laws.stays_law.Goals as goal

pub returns : goal.returns
returns c = power_over
