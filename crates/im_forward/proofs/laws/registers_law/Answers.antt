use Rattle.im_forward.proofs.Whole.{registers}
use Rattle.im_forward.proofs.laws.registers_law.Goals as goal

pub returns : goal.returns
returns c =
    registers c.promote_law.ensures c.ordered_law.ensures c.formed_law.ensures c.placeable_law.ensures c.cost_law.ensures c.rest_law.ensures
    c.forward_law.ensures c.ordered_law-2.ensures c.formed_law-2.ensures c.placeable_law-2.ensures c.uncut_law.ensures c.cost_law-2.ensures c.rest_law-2.ensures
