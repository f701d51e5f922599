use Rattle.im_power.proofs.Faults.{first_fault_is}
use Rattle.im_power.proofs.laws.first_fault_law.Goals as goal

pub returns : goal.returns
returns c = first_fault_is
