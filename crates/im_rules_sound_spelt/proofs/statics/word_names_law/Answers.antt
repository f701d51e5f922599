use Rattle.im_rules_sound_spelt.proofs.StaticsNames.{word-named}
use Rattle.im_rules_sound_spelt.proofs.statics.word_names_law.Goals as goal

pub returns : goal.returns
returns c = λ k bytes w p h short. word-named k bytes w p h short
