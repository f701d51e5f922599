use Rattle.im_typed.proofs.Whole.{statics-shown}
use Rattle.im_typed.proofs.laws.statics_law.Goals as goal

pub returns : goal.returns
returns c = λ g input fuel. statics-shown g input fuel
