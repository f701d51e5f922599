use Rattle.std.proofs.Common.{sym}
use Rattle.im_types.specs.Shape.{type_of}
use Rattle.im_check_shapes.proofs.Texts.{completed_none}
use Rattle.im_check_shapes.proofs.counted.completed.Goals as goal

pub returns-in-None : goal.returns-in-None
returns-in-None c = rw c.in-None.is (sym (completed_none (type_of c.args.ty)))
