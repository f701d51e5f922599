use Rattle.im_replay.proofs.Device.{replay_law}
use Rattle.im_replay.proofs.laws.replay_law.Goals as goal

pub returns : goal.returns
returns c = replay_law
