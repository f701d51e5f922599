use Rattle.std.proofs.Common.{◌++◌}
use Rattle.std.specs.List.{flat_map}
use Rattle.im_cmd_lines.specs.Builds.{frame_line}
use Rattle.im_cmd_lines.specs.Reports.{cut_line, report_head}
use Rattle.im_cmd_lines.proofs.Joined.{first_sent, sends_then}
use Rattle.im_cmd_lines.proofs.reports.send_report_lines.Goals as goal

pub returns-in-Ok : goal.returns-in-Ok
returns-in-Ok g c = sends_then _ _ (report_head c.args.words c.args.gap c.args.statics ++ flat_map frame_line c.args.frames.now) (flat_map cut_line c.args.cuts.now) _ _ _ _ c.in-Ok.ensures c.send_cut_lines.ensures

pub returns-in-Err : goal.returns-in-Err
returns-in-Err g c = first_sent (report_head c.args.words c.args.gap c.args.statics ++ flat_map frame_line c.args.frames.now) (flat_map cut_line c.args.cuts.now) _ _ c.in-Err.ensures
