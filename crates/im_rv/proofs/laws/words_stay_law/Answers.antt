use Rattle.im_rv.proofs.Sizes.{step_words}
use Rattle.im_rv.proofs.laws.words_stay_law.Goals as goal

pub returns : goal.returns
returns c = step_words
