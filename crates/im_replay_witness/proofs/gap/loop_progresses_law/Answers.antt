use Rattle.im_replay_witness.proofs.LoopGap.{loop_progresses_law}
use Rattle.im_replay_witness.proofs.gap.loop_progresses_law.Goals as goal

pub returns : goal.returns
returns c = loop_progresses_law
