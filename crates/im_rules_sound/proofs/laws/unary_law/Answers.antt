use Rattle.im_rules_sound.proofs.Terms.{unary}
use Rattle.im_rules_sound.proofs.laws.unary_law.Goals as goal

pub returns : goal.returns
returns c = λ g f known op x h small e. unary g f known op x h small e
