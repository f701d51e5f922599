use Rattle.std.proofs.Common.{codes}
use Rattle.im_cmd_lines.specs.Reports.{cause_text}
use Rattle.im_cmd_lines.proofs.Joined.{first_sent, sends_then}
use Rattle.im_cmd_lines.proofs.reports.send_cause_end.Goals as goal

pub returns-in-Ok : goal.returns-in-Ok
returns-in-Ok g c = sends_then _ _ (cause_text c.args.cause) (codes "\n") _ _ _ _ c.in-Ok.ensures c.send.ensures

pub returns-in-Err : goal.returns-in-Err
returns-in-Err g c = first_sent (cause_text c.args.cause) (codes "\n") _ _ c.in-Err.ensures
