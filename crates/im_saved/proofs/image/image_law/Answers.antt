use Rattle.im_saved.proofs.Beginning.{of_image}
use Rattle.im_saved.proofs.image.image_law.Goals as goal

pub returns : goal.returns
returns c = of_image c.live_law.ensures c.written_law.ensures
