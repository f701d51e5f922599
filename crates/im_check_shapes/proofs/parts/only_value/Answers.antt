use Rattle.im_check_shapes.proofs.Alone.{only_made, not_single}
use Rattle.im_check_shapes.proofs.parts.only_value.Goals as goal

pub returns-in-Some : goal.returns-in-Some
returns-in-Some c = only_made c.args.items.now c.in-Some.i.now c.value_in.result c.in-Some.ensures c.value_in.ensures

pub returns-in-None : goal.returns-in-None
returns-in-None c = not_single c.args.items.now c.in-None.ensures
