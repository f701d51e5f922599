use Rattle.im_replay_witness.proofs.LoopRun.{loop_placed_law}
use Rattle.im_replay_witness.proofs.gap.loop_placed_law.Goals as goal

pub returns : goal.returns
returns c = loop_placed_law
