use Rattle.std.proofs.Common.{refl}
use Rattle.im_trial_middle.proofs.Single.{ordered, forced}
use Rattle.im_trial_middle.proofs.recutting.sample.Goals as goal

pub returns-clause-ordered : goal.returns-clause-ordered
returns-clause-ordered c = ordered _ _ _ c.in_ok-vec.ensures.items c.in_ok-blocks.ensures.items refl

pub returns-clause-forced : goal.returns-clause-forced
returns-clause-forced c =
    forced _ _ _ c.in_ok-vec.ensures.items c.in_ok-blocks.ensures.items refl (rw c.in_ok-lines.ensures.items tt) (rw c.in_ok-lines.ensures.items (tt, tt))
