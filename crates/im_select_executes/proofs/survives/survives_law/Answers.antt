use Rattle.im_select_executes.proofs.Sectioned.{survives}
use Rattle.im_select_executes.proofs.survives.survives_law.Goals as goal

pub returns : goal.returns
returns c = survives c.touched_law.ensures c.sections_law.ensures
