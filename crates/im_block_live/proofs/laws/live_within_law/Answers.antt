use Rattle.im_block_live.proofs.Pointed.{live_within}
use Rattle.im_block_live.proofs.laws.live_within_law.Goals as goal

pub returns : goal.returns
returns c = live_within
