use Rattle.im_live.proofs.Bits.{has_one}
use Rattle.im_live.proofs.registers.one.Goals as goal

pub returns : goal.returns
returns c r lt = has_one c.args.register r c.requires
