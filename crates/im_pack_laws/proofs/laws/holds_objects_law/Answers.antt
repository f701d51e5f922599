use Rattle.im_pack_laws.proofs.Objects.{objects}
use Rattle.im_pack_laws.proofs.laws.holds_objects_law.Goals as goal

pub returns : goal.returns
returns c = objects
