use Rattle.im_typed.proofs.Whole.{meaning-extends}
use Rattle.im_typed.proofs.laws.more_fuel_law.Goals as goal

pub returns : goal.returns
returns c = λ g input fuel more. meaning-extends g input fuel more
