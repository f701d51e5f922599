use Rattle.im_cmd_lines.specs.Refusals.{refused_of}
use Rattle.im_cmd.specs.Answers.{upgrade_refused, upgraded}
use Rattle.im_cmd.proofs.Reports.{tells_refusal, tells_text}
use Rattle.im_cmd.proofs.commands.upgrade.Goals as goal

pub returns-in-Ok : goal.returns-in-Ok
returns-in-Ok g c = record { outcome = _; comes = upgraded _ _ _ c.in-Ok.ensures; tells = tells_text _ _ _ _ _ _ _ _ _ c.send_upgrade_line-sent.ensures c.finish.ensures }

pub returns-in-Err : goal.returns-in-Err
returns-in-Err g c = record { outcome = _; comes = upgrade_refused _ _ (refused_of c.in-Err.refusal) c.in-Err.ensures; tells = tells_refusal _ _ _ _ _ c.tell_refusal.ensures.status c.tell_refusal.ensures.err }
