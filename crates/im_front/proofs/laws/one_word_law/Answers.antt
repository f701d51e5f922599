use Rattle.im_front.proofs.OneWord.{one-word, one-list}
use Rattle.im_front.proofs.laws.one_word_law.Goals as goal

pub returns : goal.returns
returns c = record { word = one-word; words = one-list }
