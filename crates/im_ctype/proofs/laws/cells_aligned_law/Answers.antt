use Rattle.im_ctype.proofs.Places.{cells-aligned, cells-aligned-first}
use Rattle.im_ctype.proofs.laws.cells_aligned_law.Goals as goal

pub returns-clause-offsets : goal.returns-clause-offsets
returns-clause-offsets c = λ structs ty. cells-aligned-first structs ty

pub returns-clause-addresses : goal.returns-clause-addresses
returns-clause-addresses c = λ structs ty at h. cells-aligned structs ty at h
