use Rattle.im_recut.proofs.Keeps.{keeps}
use Rattle.im_recut.proofs.laws.recut_keeps_law.Goals as goal

pub returns : goal.returns
returns c = keeps c.same_law.ensures c.apart_law.ensures c.gap_same_law.ensures c.gap_apart_law.ensures c.further_law.ensures
