use Rattle.im_force.proofs.Apart.{apart}
use Rattle.im_force.proofs.Keeps.{same, forced}
use Rattle.im_force.proofs.laws.force_keeps_law.Goals as goal

pub returns : goal.returns
returns c = record { same = same; forced = forced; apart = apart }
