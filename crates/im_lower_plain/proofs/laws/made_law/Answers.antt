use Rattle.im_lower_plain.proofs.Units.{unit_lowered}
use Rattle.im_lower_plain.proofs.laws.made_law.Goals as goal

pub returns : goal.returns
returns c = record { lowered = unit_lowered }
