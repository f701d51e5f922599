use Rattle.std.proofs.Common.{refl}
use Rattle.im_image.specs.Text.{image_text}
use Rattle.im_image.proofs.Again.{image_again}
use Rattle.im_image.proofs.laws.no_fault_law.Goals as goal

pub returns : goal.returns
returns c = λ image p. (image_again image (image_text image) p refl).0
