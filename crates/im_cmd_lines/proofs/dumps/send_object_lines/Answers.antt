use Rattle.im_cmd_lines.specs.Dumps.{object_line}
use Rattle.im_cmd_lines.proofs.Joined.{item_first}
use Rattle.im_cmd_lines.proofs.dumps.send_object_lines.Goals as goal

pub returns-in-Err : goal.returns-in-Err
returns-in-Err g c = item_first object_line c.args.objects.now c.loop-object.object-index c.object-item.result _ _ _ c.loop-object-test.true c.object-item.is c.loop-object.invariant c.in-Err.ensures
