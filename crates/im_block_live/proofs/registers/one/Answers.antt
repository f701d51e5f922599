use Rattle.im_block_live.proofs.Bits.{among}
use Rattle.im_block_live.proofs.registers.one.Goals as goal

pub returns-then-bit-lt32 : goal.returns-then-bit-lt32
returns-then-bit-lt32 c j lt = among c.args.base j c.args.number c.if-number-base.false c.if-bit-lt32.true
