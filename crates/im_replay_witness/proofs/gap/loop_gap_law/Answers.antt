use Rattle.im_replay_witness.proofs.LoopGap.{loop_gap_law}
use Rattle.im_replay_witness.proofs.gap.loop_gap_law.Goals as goal

pub returns : goal.returns
returns c = loop_gap_law
