use Rattle.im_cmd_lines.specs.Refusals.{refused_of}
use Rattle.im_cmd.proofs.Stages.{input_over, input_taken}
use Rattle.im_cmd.proofs.evaluating.take_input.Goals as goal

pub returns-in-Ok-has_room : goal.returns-in-Ok-has_room
returns-in-Ok-has_room g c = input_taken _ _ _ _ c.in-Ok.ensures (rw c.deref.ensures.value at c.in-Ok-has_room.ensures)

pub returns : goal.returns
returns g c = input_over _ _ _ _ c.in-Ok.ensures (refused_of c.in-Err-has_room.refusal) (rw c.deref.ensures.value at c.in-Err-has_room.ensures)
