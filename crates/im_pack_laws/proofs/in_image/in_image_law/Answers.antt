use Rattle.im_pack_laws.proofs.Image.{in_image}
use Rattle.im_pack_laws.proofs.in_image.in_image_law.Goals as goal

pub returns : goal.returns
returns c = in_image c.linked_law.ensures c.loads_law.ensures c.holds_objects_law.ensures c.packed_law.ensures c.places_law.ensures
