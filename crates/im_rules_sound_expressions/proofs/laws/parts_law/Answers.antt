use Rattle.im_rules_sound_expressions.proofs.Parts.{parts}
use Rattle.im_rules_sound_expressions.proofs.laws.parts_law.Goals as goal

pub returns : goal.returns
returns c = λ g f known v x structs h is has plain. parts g f known structs v x h is has plain
