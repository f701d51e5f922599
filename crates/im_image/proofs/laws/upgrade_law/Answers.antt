use Rattle.std.proofs.Common.{refl}
use Rattle.im_image.proofs.Answered.{upgraded_is}
use Rattle.im_image.proofs.laws.upgrade_law.Goals as goal

pub returns : goal.returns
returns c = λ image is. record { is_image = upgraded_is image is; again = refl }
