use Rattle.im_ctype.proofs.CellLists.{layout-more}
use Rattle.im_ctype.proofs.laws.more_structs_law.Goals as goal

pub returns : goal.returns
returns c = λ structs more ty complete. layout-more structs more ty complete
