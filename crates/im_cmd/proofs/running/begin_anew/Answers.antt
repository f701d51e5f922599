use Rattle.im_cmd_lines.specs.Refusals.{refused_of}
use Rattle.im_cmd.proofs.Stages.{anew_unloaded, anew_unread, begins_anew}
use Rattle.im_cmd.proofs.running.begin_anew.Goals as goal

pub returns-in-Ok-load : goal.returns-in-Ok-load
returns-in-Ok-load g c = λ image_name. begins_anew _ _ _ _ _ _ c.in-Ok.ensures (rw c.deref.ensures.value at c.in-Ok-load.ensures)

pub returns-in-Err : goal.returns-in-Err
returns-in-Err g c = λ image_name. anew_unread image_name _ _ _ _ (refused_of c.in-Err.refusal) c.in-Err.ensures

pub returns : goal.returns
returns g c = λ image_name. anew_unloaded image_name _ _ _ _ _ c.in-Ok.ensures (refused_of c.in-Err-load.refusal) (rw c.deref.ensures.value at c.in-Err-load.ensures)
