use Rattle.std.proofs.Common.{arith}
use Rattle.im_typed.proofs.Whole.{bound-irrelevant}
use Rattle.im_typed.proofs.laws.bound_law.Goals as goal

pub returns : goal.returns
returns c = λ g input fuel bound le. bound-irrelevant g input fuel fuel bound (omega arith) le
