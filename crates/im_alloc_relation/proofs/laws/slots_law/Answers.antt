use Rattle.im_alloc_relation.proofs.Slots.{slots}
use Rattle.im_alloc_relation.proofs.laws.slots_law.Goals as goal

pub returns : goal.returns
returns c = slots
