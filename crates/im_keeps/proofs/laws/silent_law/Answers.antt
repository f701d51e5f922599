use Rattle.im_keeps.proofs.Silent.{silent}
use Rattle.im_keeps.proofs.laws.silent_law.Goals as goal

pub returns : goal.returns
returns c = silent
