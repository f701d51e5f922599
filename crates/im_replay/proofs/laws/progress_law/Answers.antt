use Rattle.im_replay.proofs.Device.{progress_law}
use Rattle.im_replay.proofs.laws.progress_law.Goals as goal

pub returns : goal.returns
returns c = progress_law
