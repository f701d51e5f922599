use Rattle.im_link_laws.proofs.Linkable.{linkable}
use Rattle.im_link_laws.proofs.laws.linkable_law.Goals as goal

pub returns : goal.returns
returns c = linkable
