use Rattle.std.specs.List.{flat_map}
use Rattle.im_cmd_lines.specs.Builds.{frame_line}
use Rattle.im_cmd_lines.specs.Evaluations.{evaluated_line}
use Rattle.im_cmd_lines.proofs.Joined.{first_sent, sends_then}
use Rattle.im_cmd_lines.proofs.evaluations.send_evaluation_lines.Goals as goal

pub returns-in-Ok : goal.returns-in-Ok
returns-in-Ok g c = sends_then _ _ (flat_map frame_line c.args.frames.now) (evaluated_line c.args.evaluated) _ _ _ _ c.in-Ok.ensures c.send_evaluated_line.ensures

pub returns-in-Err : goal.returns-in-Err
returns-in-Err g c = first_sent (flat_map frame_line c.args.frames.now) (evaluated_line c.args.evaluated) _ _ c.in-Err.ensures
