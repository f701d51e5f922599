use Rattle.im_select_relation.proofs.Agreement.{words_agree}
use Rattle.im_select_relation.proofs.laws.words_agree_law.Goals as goal

pub returns : goal.returns
returns c = words_agree
