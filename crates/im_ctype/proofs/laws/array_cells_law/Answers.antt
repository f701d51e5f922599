use Rattle.im_ctype.specs.Layout.{layout}
use Rattle.im_ctype.proofs.Places.{side-by-side}
use Rattle.im_ctype.proofs.laws.array_cells_law.Goals as goal

pub returns : goal.returns
returns c = λ structs element count. side-by-side count (layout structs element)
