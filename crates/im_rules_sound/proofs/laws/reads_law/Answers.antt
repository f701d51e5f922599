use Rattle.im_rules_sound.proofs.Terms.{reads}
use Rattle.im_rules_sound.proofs.laws.reads_law.Goals as goal

pub returns : goal.returns
returns c = λ g f known x h. reads g f known x h
