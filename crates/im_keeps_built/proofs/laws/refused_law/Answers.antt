use Rattle.im_keeps_built.proofs.Refused.{refused}
use Rattle.im_keeps_built.proofs.laws.refused_law.Goals as goal

pub returns : goal.returns
returns c = refused c.lowers_law.ensures c.middle_law.ensures c.words_law.ensures
