use Rattle.std.proofs.Common.{arith}
use Rattle.im_cmd.specs.Stages.{too_long}
use Rattle.im_cmd.proofs.evaluating.has_room.Goals as goal

pub returns-then-input : goal.returns-then-input
returns-then-input c = rw c.from-most.ensures (too_long (omega (arith, c.if-input.true)))

pub returns : goal.returns
returns c = record { fits = omega (arith, c.if-input.false); bytes = λ i. omega (arith, c.type_inv.input i) }
