use Rattle.im_emu.proofs.Periods.{two_parts}
use Rattle.im_emu.proofs.laws.periods_law.Goals as goal

pub returns : goal.returns
returns c = two_parts
