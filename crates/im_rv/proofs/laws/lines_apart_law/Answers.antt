use Rattle.im_rv.proofs.Apart.{lines_apart}
use Rattle.im_rv.proofs.laws.lines_apart_law.Goals as goal

pub returns : goal.returns
returns c = lines_apart
