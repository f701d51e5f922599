use Rattle.im_rules_sound_spelt.proofs.Tokens.{word-lexical}
use Rattle.im_rules_sound_spelt.proofs.laws.words_law.Goals as goal

pub returns : goal.returns
returns c = λ k bytes w h some b. word-lexical k bytes w h some b
