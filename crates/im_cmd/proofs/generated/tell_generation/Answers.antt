use Rattle.std.proofs.Common.{w32}
use Rattle.std.proofs.lemmas.Int.{to_z-of_z}
use Rattle.im_cmd.proofs.generated.tell_generation.Goals as goal

pub returns : goal.returns
returns g c =
    rw (to_z-of_z w32 c.status.result (record { sfits = c.status.type_inv }), c.of-ending.ensures, c.went.ensures, c.reason.ensures, c.output.ensures, c.status.ensures)
    at c.tell_made.ensures
