use Rattle.im_pack_laws.proofs.Image.{selects}
use Rattle.im_pack_laws.proofs.in_image.selects_law.Goals as goal

pub returns : goal.returns
returns c = selects c.in_image_law.ensures c.named_law.ensures c.packed_law.ensures c.objects_law.ensures c.words_law.ensures
