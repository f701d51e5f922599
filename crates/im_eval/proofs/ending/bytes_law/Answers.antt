use Rattle.std.proofs.Common.{arith}
use Rattle.im_eval.proofs.Living.{each-byte}
use Rattle.im_eval.proofs.ending.bytes_law.Goals as goal

pub returns : goal.returns
returns c = each-byte c.args.bytes.now (λ i. omega (arith, c.type_inv.bytes i))
