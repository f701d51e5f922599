use Rattle.im_ctype.proofs.Places.{cells-disjoint}
use Rattle.im_ctype.proofs.laws.cells_disjoint_law.Goals as goal

pub returns : goal.returns
returns c = λ structs ty. cells-disjoint structs ty
