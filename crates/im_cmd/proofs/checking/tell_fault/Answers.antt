use Rattle.im_cmd.specs.Stages.{second_told, second_not_told}
use Rattle.im_cmd.proofs.checking.tell_fault.Goals as goal

pub returns-in-Ok : goal.returns-in-Ok
returns-in-Ok g c = second_told c.in-Ok.ensures

pub returns-in-Err : goal.returns-in-Err
returns-in-Err g c = second_not_told c.in-Err.ensures
