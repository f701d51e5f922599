use Rattle.im_replay_witness.proofs.Laws_of.{counter_replays_law}
use Rattle.im_replay_witness.proofs.laws.counter_replays_law.Goals as goal

pub returns : goal.returns
returns c = counter_replays_law
