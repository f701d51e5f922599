use Rattle.std.proofs.Common.{arith}
use Rattle.im_image.proofs.Answered.{read_is, reads_each}
use Rattle.im_image.proofs.reading.read_image.Goals as goal

pub returns-clause-read : goal.returns-clause-read
returns-clause-read c = read_is c.args.bytes.now c.read_fields.result (λ i. omega (arith, c.type_inv.bytes i)) c.read_fields.ensures.fields c.read_fields.ensures.right

pub returns-clause-reads_each : goal.returns-clause-reads_each
returns-clause-reads_each c = λ image is e. reads_each c.args.bytes.now c.read_fields.result image c.read_fields.ensures.fields c.read_fields.ensures.wrong is e
