use Rattle.im_keeps_writes.proofs.Bounded.{bounded}
use Rattle.im_keeps_writes.proofs.laws.built_bound_law.Goals as goal

pub returns : goal.returns
returns c = bounded c.ready_law.ensures c.function_bound_law.ensures
