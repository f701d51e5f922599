use Rattle.im_cmd_lines.specs.Refusals.{refused_of}
use Rattle.im_cmd.specs.Builds.{uncompiled}
use Rattle.im_cmd.proofs.Builds.{builds, store_refused}
use Rattle.im_cmd.proofs.building.build.Goals as goal

pub returns-in-Err : goal.returns-in-Err
returns-in-Err g c = uncompiled (refused_of c.in-Err.refusal) c.in-Err.ensures

pub returns-in-Ok-store_image : goal.returns-in-Ok-store_image
returns-in-Ok-store_image g c = builds _ _ _ c.in-Ok.built _ _ _ c.in-Ok.ensures c.in-Ok-store_image.ensures

pub returns : goal.returns
returns g c = store_refused _ _ _ c.in-Ok.built _ _ _ c.in-Ok.ensures (refused_of c.in-Err-store_image.refusal) c.in-Err-store_image.ensures
