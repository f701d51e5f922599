use Rattle.im_cmd_lines.specs.Builds.{frame_line}
use Rattle.im_cmd_lines.proofs.Joined.{item_first}
use Rattle.im_cmd_lines.proofs.builds.send_frame_lines.Goals as goal

pub returns-in-Err : goal.returns-in-Err
returns-in-Err g c = item_first frame_line c.args.frames.now c.loop-frame.frame-index c.frame-item.result _ _ _ c.loop-frame-test.true c.frame-item.is c.loop-frame.invariant c.in-Err.ensures
