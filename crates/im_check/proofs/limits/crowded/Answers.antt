use Rattle.std.proofs.Common.{refl}
use Rattle.im_check.proofs.limits.crowded.Goals as goal

pub returns-in-Ok : goal.returns-in-Ok
returns-in-Ok c = (refl, refl, c.in-Ok.ensures.items)
