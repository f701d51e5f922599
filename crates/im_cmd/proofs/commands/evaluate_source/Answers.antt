use Rattle.im_cmd_lines.specs.Refusals.{refused_of}
use Rattle.im_cmd.specs.Answers.{eval_refused, evaluated}
use Rattle.im_cmd.proofs.Reports.{tells_refusal}
use Rattle.im_cmd.proofs.commands.evaluate_source.Goals as goal

pub returns-in-Ok : goal.returns-in-Ok
returns-in-Ok g c = record { outcome = _; comes = evaluated _ _ _ _ _ c.in-Ok.ensures; tells = c.tell_evaluation.ensures }

pub returns-in-Err : goal.returns-in-Err
returns-in-Err g c = record { outcome = _; comes = eval_refused _ _ _ (refused_of c.in-Err.refusal) c.in-Err.ensures; tells = tells_refusal _ _ _ _ _ c.tell_refusal.ensures.status c.tell_refusal.ensures.err }
