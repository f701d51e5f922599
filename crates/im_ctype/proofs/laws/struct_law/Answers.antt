use Rattle.im_ctype.proofs.CellLists.{struct-as-listed}
use Rattle.im_ctype.proofs.laws.struct_law.Goals as goal

pub returns : goal.returns
returns c = λ structs n s is complete. struct-as-listed structs n s is complete
