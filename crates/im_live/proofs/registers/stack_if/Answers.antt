use Rattle.std.proofs.Common.{ap, sym, ◌∙◌}
use Rattle.std.specs.Prelude.{◌==◌, ◌&&◌}
use Rattle.im_live.proofs.Bits.{has_four}
use Rattle.im_live.proofs.registers.stack_if.Goals as goal

pub returns-then-is_needed : goal.returns-then-is_needed
returns-then-is_needed c r lt = has_four r lt ∙ sym (ap (λ z. z && r == 2) c.if-is_needed.true)
