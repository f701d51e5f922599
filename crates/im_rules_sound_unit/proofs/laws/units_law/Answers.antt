use Rattle.im_rules_sound_unit.proofs.Units.{units}
use Rattle.im_rules_sound_unit.proofs.laws.units_law.Goals as goal

pub returns : goal.returns
returns c = λ u g d w l. units u g d w l
