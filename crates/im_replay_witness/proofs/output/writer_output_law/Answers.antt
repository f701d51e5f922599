use Rattle.im_replay_witness.proofs.Loaded.{writer_output_law}
use Rattle.im_replay_witness.proofs.output.writer_output_law.Goals as goal

pub returns : goal.returns
returns c = writer_output_law
