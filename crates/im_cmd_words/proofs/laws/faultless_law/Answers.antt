use Rattle.im_cmd_words.proofs.TakenLemmas.{faultless_taken}
use Rattle.im_cmd_words.proofs.laws.faultless_law.Goals as goal

pub returns : goal.returns
returns c = faultless_taken
