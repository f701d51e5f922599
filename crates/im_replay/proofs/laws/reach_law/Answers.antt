use Rattle.im_replay.proofs.Device.{reach_law}
use Rattle.im_replay.proofs.laws.reach_law.Goals as goal

pub returns : goal.returns
returns c = reach_law
