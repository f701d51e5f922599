use Rattle.std.proofs.Common.{[], to_z-of_z}
use Rattle.im_io.proofs.Pieces.{sent_none}
use Rattle.im_cmd.specs.Outcome.{told, second_cut}
use Rattle.im_cmd.proofs.generated.tell_ending.Goals as goal

pub returns-in-Ok : goal.returns-in-Ok
returns-in-Ok g c = λ out. rw c.status_of_ending.ensures (told [] _ _ (sent_none out) (rw (to_z-of_z c.ranges.status) at c.in-Ok.ensures))

pub returns-in-Err : goal.returns-in-Err
returns-in-Err g c = λ out. second_cut [] _ _ (sent_none out) (rw (to_z-of_z c.ranges.status) at c.in-Err.ensures)
