use Rattle.im_keeps_source.proofs.Right.{right}
use Rattle.im_keeps_source.proofs.laws.source_law.Goals as goal

pub returns : goal.returns
returns c = right c.end_law.ensures
