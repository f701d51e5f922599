use Rattle.im_eval_tasks.proofs.SmallNumbers.{same_prog}
use Rattle.im_eval_tasks.proofs.laws.small_view_law.Goals as goal

pub returns : goal.returns
returns c = λ g typed. same_prog g typed
