use Rattle.im_lower_laws.proofs.Sized.{unit_sized}
use Rattle.im_lower_laws.proofs.Placing.{unit_placeable, unit_uncut}
use Rattle.im_lower_laws.proofs.laws.sized_law.Goals as goal

pub returns : goal.returns
returns c = record { sized = unit_sized; placeable = unit_placeable; uncut = unit_uncut }
