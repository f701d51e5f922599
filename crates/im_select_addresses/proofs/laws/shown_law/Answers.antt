use Rattle.im_select_addresses.proofs.Shown.{shown}
use Rattle.im_select_addresses.proofs.laws.shown_law.Goals as goal

pub returns : goal.returns
returns c = shown
