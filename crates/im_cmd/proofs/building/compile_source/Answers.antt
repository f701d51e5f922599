use Rattle.im_cmd_lines.specs.Refusals.{refused_of}
use Rattle.im_cmd.proofs.Builds.{compiles_of, text_refused, unread}
use Rattle.im_cmd.proofs.building.compile_source.Goals as goal

pub returns-in-Ok-build_text : goal.returns-in-Ok-build_text
returns-in-Ok-build_text g c = compiles_of _ _ _ _ _ _ c.in-Ok.ensures.read (rw c.deref.ensures.value at c.in-Ok-build_text.ensures)

pub returns : goal.returns
returns g c = text_refused _ _ _ _ c.in-Ok.ensures.read (refused_of c.in-Err-build_text.refusal) (rw c.deref.ensures.value at c.in-Err-build_text.ensures)

pub returns-in-Err : goal.returns-in-Err
returns-in-Err g c = unread _ _ _ (refused_of c.in-Err.refusal) c.in-Err.ensures.read
