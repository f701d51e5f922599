use Rattle.im_cmd_lines.specs.Refusals.{refused_of}
use Rattle.im_cmd.proofs.Builds.{compiles_from, text_refused, unread}
use Rattle.im_cmd.proofs.building.compile_program.Goals as goal

pub returns-in-Ok-compile_text : goal.returns-in-Ok-compile_text
returns-in-Ok-compile_text g c = compiles_from _ _ _ _ _ _ _ c.in-Ok.ensures.read (rw c.deref.ensures.value at c.in-Ok-compile_text.ensures)

pub returns : goal.returns
returns g c = text_refused _ _ _ _ c.in-Ok.ensures.read (refused_of c.in-Err-compile_text.refusal) (rw c.deref.ensures.value at c.in-Err-compile_text.ensures)

pub returns-in-Err : goal.returns-in-Err
returns-in-Err g c = unread _ _ _ (refused_of c.in-Err.refusal) c.in-Err.ensures.read
