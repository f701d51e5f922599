use Rattle.im_replay_witness.proofs.Laws_of.{loop_law}
use Rattle.im_replay_witness.proofs.laws.loop_law.Goals as goal

pub returns : goal.returns
returns c = loop_law
