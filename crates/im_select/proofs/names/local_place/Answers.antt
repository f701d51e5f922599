use Rattle.std.proofs.Common.{◌<◌, sym, subst}
use Rattle.im_select.proofs.Low.{local_low}
use Rattle.im_select.proofs.names.local_place.Goals as goal

pub returns-clause-low : goal.returns-clause-low
returns-clause-low c = subst (λ z. z < 65536) (sym c.index.ensures) (local_low c.args.names.now.function.now c.args.names.now.layout.now c.args.number c.index.result.now c.requires.places.layout c.requires.there)
