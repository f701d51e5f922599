use Rattle.im_eval_tasks.proofs.Bounds.{call_enters}
use Rattle.im_eval_tasks.proofs.laws.call_law.Goals as goal

pub returns : goal.returns
returns c = λ g n k args s le. call_enters g n k args s le
