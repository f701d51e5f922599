use Rattle.im_rules_sound_spelt.proofs.Cells.{statics-cells}
use Rattle.im_rules_sound_spelt.proofs.StaticsNames.{statics-namable}
use Rattle.im_rules_sound_spelt.proofs.statics.statics_law.Goals as goal

pub returns-clause-cells : goal.returns-clause-cells
returns-clause-cells c = λ u g d w l. statics-cells u g d w l

pub returns-clause-namable : goal.returns-clause-namable
returns-clause-namable c = λ u words g d h k x l. statics-namable u words g d h k x l
