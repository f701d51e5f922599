use Rattle.im_cmd.specs.Stages.{store_failed, store_starved}
use Rattle.im_cmd.proofs.Refusing.{unchanged_none}
use Rattle.im_cmd.proofs.building.store_image.Goals as goal

pub returns-in_default : goal.returns-in_default
returns-in_default g c = store_starved (unchanged_none (g.H.Shelf.state c.args.shelf.now))

pub returns : goal.returns
returns g c = store_failed (record { counts = c.in-Err.ensures.counts; files = rw (c.deref.ensures.value, c.in-Ok.ensures) at c.in-Err.ensures.told })
