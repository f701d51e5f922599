use Rattle.im_rules_sound.proofs.Changes.{choices}
use Rattle.im_rules_sound.proofs.laws.choices_law.Goals as goal

pub returns : goal.returns
returns c = λ g f known w x y hw hx hy e. choices g f known w x y hw hx hy e
