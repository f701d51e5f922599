use Rattle.im_replay.proofs.Device.{keeps_law}
use Rattle.im_replay.proofs.laws.keeps_law.Goals as goal

pub returns : goal.returns
returns c = keeps_law
