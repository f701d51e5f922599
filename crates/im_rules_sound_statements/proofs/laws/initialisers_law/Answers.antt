use Rattle.im_rules_sound_statements.proofs.Initialisers.{initialisers}
use Rattle.im_rules_sound_statements.proofs.laws.initialisers_law.Goals as goal

pub returns : goal.returns
returns c = λ g f a b i ps d w h k e st l. initialisers g f a b i ps d w h k e st l
