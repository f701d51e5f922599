use Rattle.im_replay_witness.proofs.Loaded.{writer_byte_law}
use Rattle.im_replay_witness.proofs.output.writer_byte_law.Goals as goal

pub returns : goal.returns
returns c = writer_byte_law
