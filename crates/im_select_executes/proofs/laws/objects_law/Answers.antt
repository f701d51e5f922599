use Rattle.im_select_executes.proofs.Follow.{named}
use Rattle.im_select_executes.proofs.laws.objects_law.Goals as goal

pub returns : goal.returns
returns c = named c.shown_law.ensures c.written_law.ensures
