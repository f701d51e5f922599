use Rattle.std.proofs.Common.{refl}
use Rattle.im_check_counts.specs.Derivations.{derived_as}
use Rattle.im_driver.proofs.checking.deep.Goals as goal

pub returns-in-Ok : goal.returns-in-Ok
returns-in-Ok c u first = (derived_as c.args.x, first, refl, c.in-Ok.ensures.items, c.place_of.ensures)

pub returns-in-Err : goal.returns-in-Err
returns-in-Err c u first = rw c.whole.ensures tt
