use Rattle.im_replay.proofs.Device.{output_law}
use Rattle.im_replay.proofs.laws.output_law.Goals as goal

pub returns : goal.returns
returns c = output_law
