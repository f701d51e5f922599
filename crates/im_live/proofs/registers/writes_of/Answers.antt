use Rattle.std.specs.Prelude.{Some, None}
use Rattle.std.proofs.Common.{ap, sym, ◌∙◌}
use Rattle.im_live.specs.Reads.{writes}
use Rattle.im_live.proofs.Bits.{has_called}
use Rattle.im_live.proofs.registers.writes_of.Goals as goal

pub returns-in-Call : goal.returns-in-Call
returns-in-Call c r lt = has_called r lt ∙ sym (ap (λ z. writes z r) c.in-Call.is)

pub returns-in-Serve : goal.returns-in-Serve
returns-in-Serve c r lt = has_called r lt ∙ sym (ap (λ z. writes z r) c.in-Serve.is)
