use Rattle.std.proofs.Common.{refl}
use Rattle.im_trial_middle.proofs.Two.{buildable}
use Rattle.im_trial_middle.proofs.code.unit.Goals as goal

pub returns-clause-buildable : goal.returns-clause-buildable
returns-clause-buildable c =
    buildable _ c.in_ok-total.field-0 c.in_ok-add.field-0 c.in_ok-main_of.field-0 c.in_ok-vec.ensures.items c.in_ok-vec-2.ensures.items refl c.in_ok-total.ensures.holds c.in_ok-total.ensures.size c.in_ok-total.ensures.named c.in_ok-add.ensures c.in_ok-main_of.ensures
