use Rattle.im_replay_witness.proofs.Loaded.{writer_shows_law}
use Rattle.im_replay_witness.proofs.output.writer_shows_law.Goals as goal

pub returns : goal.returns
returns c = writer_shows_law
