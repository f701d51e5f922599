use Rattle.std.proofs.Common.{to_z-of_z}
use Rattle.im_cmd.proofs.Generations.{tells_other}
use Rattle.im_cmd.proofs.Reports.{tells_text}
use Rattle.im_cmd.proofs.generated.tell_made.Goals as goal

pub returns-in-Returned : goal.returns-in-Returned
returns-in-Returned g c = rw c.in-Returned.is (tells_text _ _ _ _ _ _ _ _ _ (rw (to_z-of_z c.ranges.status) at c.send_generation_line-sent.ensures) c.finish.ensures)

pub returns-in-StackExhausted : goal.returns-in-StackExhausted
returns-in-StackExhausted g c = tells_other _ _ _ _ _ _ _ _ c.in-StackExhausted.is (rw (to_z-of_z c.ranges.status) at (c.tell_ending.ensures (g.O.Sink.state c.args.out.now)))
