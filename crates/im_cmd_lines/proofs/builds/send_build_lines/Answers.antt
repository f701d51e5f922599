use Rattle.std.specs.List.{flat_map}
use Rattle.im_cmd_lines.specs.Builds.{frame_line, size_lines}
use Rattle.im_cmd_lines.proofs.Joined.{first_sent, sends_then}
use Rattle.im_cmd_lines.proofs.builds.send_build_lines.Goals as goal

pub returns-in-Ok : goal.returns-in-Ok
returns-in-Ok g c = sends_then _ _ (size_lines c.args.words c.args.gap) (flat_map frame_line c.args.frames.now) _ _ _ _ c.in-Ok.ensures c.send_frame_lines.ensures

pub returns-in-Err : goal.returns-in-Err
returns-in-Err g c = first_sent (size_lines c.args.words c.args.gap) (flat_map frame_line c.args.frames.now) _ _ c.in-Err.ensures
