use Rattle.im_emu.proofs.Places.{places}
use Rattle.im_emu.proofs.laws.place_law.Goals as goal

pub returns : goal.returns
returns c = places
