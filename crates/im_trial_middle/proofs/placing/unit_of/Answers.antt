use Rattle.std.proofs.Common.{refl}
use Rattle.im_block.specs.declared.unit.Unit.{Unit as Code}
use Rattle.im_trial_middle.proofs.Taken.{taken}
use Rattle.im_trial_middle.proofs.placing.unit_of.Goals as goal

pub returns : goal.returns
returns c =
    let yes = c.if-not-is_open.false in
    let unit : Code = record { statics = c.new.result; functions = c.in_ok-vec.field-0; main = 0 } in
    taken unit c.in_ok-function.function c.in_ok-second.field-0 c.new.ensures.items c.in_ok-vec.ensures.items refl c.in_ok-function.ensures (c.is_open.ensures.blocks yes) (c.is_open.ensures.accesses yes) c.in_ok-second.ensures
