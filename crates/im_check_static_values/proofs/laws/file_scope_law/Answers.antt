use Rattle.im_check_static_values.proofs.FilePlaces.{are_constants, refused_item}
use Rattle.im_check_static_values.proofs.laws.file_scope_law.Goals as goal

pub returns : goal.returns
returns c = record { constants = are_constants; refused = refused_item }
