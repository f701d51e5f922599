use Rattle.im_device.proofs.Runs.{split}
use Rattle.im_device.proofs.laws.split_trace_law.Goals as goal

pub returns : goal.returns
returns c = split
