use Rattle.im_link_laws.proofs.Whole.{linked}
use Rattle.im_link_laws.proofs.laws.linked_law.Goals as goal

pub returns : goal.returns
returns c = linked
