use Rattle.im_typed.proofs.Whole.{fuel-never-grows}
use Rattle.im_typed.proofs.laws.fuel_law.Goals as goal

pub returns : goal.returns
returns c = λ g input fuel bound. fuel-never-grows g input fuel bound
