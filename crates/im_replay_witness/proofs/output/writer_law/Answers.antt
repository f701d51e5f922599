use Rattle.im_replay_witness.proofs.Loaded.{writer_law}
use Rattle.im_replay_witness.proofs.output.writer_law.Goals as goal

pub returns : goal.returns
returns c = writer_law
