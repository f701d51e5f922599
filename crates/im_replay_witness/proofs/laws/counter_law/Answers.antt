use Rattle.im_replay_witness.proofs.Laws_of.{counter_law}
use Rattle.im_replay_witness.proofs.laws.counter_law.Goals as goal

pub returns : goal.returns
returns c = counter_law
