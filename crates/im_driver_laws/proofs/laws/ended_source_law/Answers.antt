use Rattle.im_driver_laws.proofs.Ends.{ended}
use Rattle.im_driver_laws.proofs.laws.ended_source_law.Goals as goal

pub returns : goal.returns
returns c = ended c.more_fuel_law.ensures
