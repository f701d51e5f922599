use Rattle.im_link_laws.proofs.Counting.{words}
use Rattle.im_link_laws.proofs.laws.words_law.Goals as goal

pub returns : goal.returns
returns c = words
