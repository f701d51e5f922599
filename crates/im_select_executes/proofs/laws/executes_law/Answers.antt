use Rattle.im_select_executes.proofs.Follow.{executes}
use Rattle.im_select_executes.proofs.laws.executes_law.Goals as goal

pub returns : goal.returns
returns c = executes c.select_keeps_law.ensures c.written_law.ensures c.survives_law.ensures c.image_law.ensures
