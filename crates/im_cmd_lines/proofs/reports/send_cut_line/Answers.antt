use Rattle.std.proofs.Common.{◌++◌, codes}
use Rattle.im_cmd_lines.specs.Reports.{cause_text, place_text}
use Rattle.im_cmd_lines.proofs.Joined.{first_sent, sends_then}
use Rattle.im_cmd_lines.proofs.reports.send_cut_line.Goals as goal

pub returns-in-Ok : goal.returns-in-Ok
returns-in-Ok g c = sends_then _ _ (place_text c.args.cut.now) (cause_text c.args.cut.now.cause ++ codes "\n") _ _ _ _ c.in-Ok.ensures c.send_cause_end.ensures

pub returns-in-Err : goal.returns-in-Err
returns-in-Err g c = first_sent (place_text c.args.cut.now) (cause_text c.args.cut.now.cause ++ codes "\n") _ _ c.in-Err.ensures
