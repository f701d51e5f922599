use Rattle.im_select_addresses.proofs.Frames.{frames}
use Rattle.im_select_addresses.proofs.laws.frames_law.Goals as goal

pub returns : goal.returns
returns c = frames
