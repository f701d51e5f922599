use Rattle.im_cmd_lines.specs.Refusals.{refused_of}
use Rattle.im_cmd.specs.Answers.{exec_unread, exec_refused, executed}
use Rattle.im_cmd.proofs.Reports.{tells_refusal}
use Rattle.im_cmd.proofs.commands.execute.Goals as goal

pub returns-in-Ok-run_image : goal.returns-in-Ok-run_image
returns-in-Ok-run_image g c = record {
  outcome = _;
  comes = executed _ _ _ _ _ _ c.in-Ok.ensures c.in-Ok-run_image.ensures.run;
  tells = rw (c.in-Ok-run_image.ensures.are_shown, c.in-Ok-run_image.ensures.form_is) at c.tell_run.ensures;
}

pub returns : goal.returns
returns g c = record {
  outcome = _;
  comes = exec_refused _ _ _ _ _ (refused_of c.in-Err-run_image.refusal) c.in-Ok.ensures c.in-Err-run_image.ensures;
  tells = tells_refusal _ _ _ _ _ c.tell_refusal-in-Err-run_image.ensures.status c.tell_refusal-in-Err-run_image.ensures.err;
}

pub returns-in-Err : goal.returns-in-Err
returns-in-Err g c = record { outcome = _; comes = exec_unread _ _ _ (refused_of c.in-Err.refusal) c.in-Err.ensures; tells = tells_refusal _ _ _ _ _ c.tell_refusal.ensures.status c.tell_refusal.ensures.err }
