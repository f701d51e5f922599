use Rattle.std.proofs.Common.{refl, sym, ap, ◌∙◌}
use Rattle.im_image.specs.Faults.{image_at}
use Rattle.im_image.specs.Text.{image_text}
use Rattle.im_image.proofs.Again.{image_again}
use Rattle.im_image.proofs.laws.one_image_law.Goals as goal

pub returns : goal.returns
returns c = λ one other p q e.
    sym (image_again one (image_text one) p refl).1 ∙ ap image_at e ∙ (image_again other (image_text other) q refl).1
