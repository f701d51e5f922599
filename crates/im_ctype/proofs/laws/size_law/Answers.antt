use Rattle.im_ctype.proofs.Places.{alignment-is, size-multiple}
use Rattle.im_ctype.proofs.laws.size_law.Goals as goal

pub returns-clause-alignment : goal.returns-clause-alignment
returns-clause-alignment c = λ structs ty. alignment-is structs ty

pub returns-clause-multiple : goal.returns-clause-multiple
returns-clause-multiple c = λ structs ty. size-multiple structs ty
