use Rattle.im_image.specs.Faults.{image_at}
use Rattle.im_image.proofs.Taken.{image_taken}
use Rattle.im_image.proofs.laws.each_text_law.Goals as goal

pub returns : goal.returns
returns c = λ text bytes none.
    let taken = image_taken text bytes none in
    (image_at text, record { is_image = taken.0; text_is = taken.1 })
