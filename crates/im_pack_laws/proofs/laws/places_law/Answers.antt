use Rattle.im_pack_laws.proofs.Labels.{places}
use Rattle.im_pack_laws.proofs.laws.places_law.Goals as goal

pub returns : goal.returns
returns c = places
