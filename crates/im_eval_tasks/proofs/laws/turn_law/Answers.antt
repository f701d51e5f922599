use Rattle.im_eval_tasks.proofs.Bounds.{turn_begins}
use Rattle.im_eval_tasks.proofs.laws.turn_law.Goals as goal

pub returns : goal.returns
returns c = λ types g n h l s le. turn_begins types g n h l s le
