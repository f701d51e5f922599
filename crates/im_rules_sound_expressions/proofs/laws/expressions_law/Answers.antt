use Rattle.im_rules_sound_expressions.proofs.Expressions.{expressions}
use Rattle.im_rules_sound_expressions.proofs.laws.expressions_law.Goals as goal

pub returns : goal.returns
returns c = λ g f a e x d r h s w. expressions g f a e x d r h s w
