use Rattle.im_device.proofs.Runs.{run_parts}
use Rattle.im_device.proofs.laws.run_law.Goals as goal

pub returns : goal.returns
returns c = run_parts
