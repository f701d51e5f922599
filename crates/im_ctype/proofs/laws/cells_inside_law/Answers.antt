use Rattle.im_ctype.proofs.Places.{cells-inside}
use Rattle.im_ctype.proofs.laws.cells_inside_law.Goals as goal

pub returns : goal.returns
returns c = λ structs ty. cells-inside structs ty
