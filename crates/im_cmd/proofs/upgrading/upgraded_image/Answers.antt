use Rattle.std.proofs.Common.{ap, rules, subst, sym}
use Rattle.im_image.specs.Contents.{ImageValue}
use Rattle.im_image.specs.declared.version.Version.{Version}
use Rattle.im_cmd.specs.Upgrades.{IsUpgraded}
use Rattle.im_cmd.specs.Stages.{faulty_image, image_starved}
use Rattle.im_cmd.proofs.Upgrades.{image_new}
use Rattle.im_cmd.proofs.upgrading.upgraded_image.Goals as goal

pub returns-in-Ok-write_image : goal.returns-in-Ok-write_image
returns-in-Ok-write_image c =
    subst (λ (v : Version). IsUpgraded c.args.text.now v c.in-Ok-write_image.text.items) (sym (ap (λ (i : ImageValue). i.version) c.image.view_is))
    (image_new c.args.text.now _ c.in-Ok.image _ c.in-Ok.ensures.read.0 c.in-Ok.ensures.read.1 c.upgraded-upgraded.ensures c.in-Ok-write_image.ensures)

pub returns-in-Err-OutOfMemory : goal.returns-in-Err-OutOfMemory
returns-in-Err-OutOfMemory c = image_starved

pub returns-in-Err : goal.returns-in-Err
returns-in-Err c = faulty_image c.in-Err.fault (search rules)

pub returns : goal.returns
returns c = image_starved
