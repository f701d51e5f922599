use Rattle.im_cmd_words.specs.Named.{meaning}
use Rattle.im_cmd.specs.Answers.{carried_out}
use Rattle.im_cmd.proofs.Entries.{fault_answers}
use Rattle.im_cmd.proofs.entry.top.Goals as goal

pub carry_out-requires : goal.carry_out-requires
carry_out-requires g c = c.in-Ok.ensures.bounds

pub returns-in-Ok : goal.returns-in-Ok
returns-in-Ok g c = carried_out (meaning c.in-Ok.command) c.in-Ok.ensures.named c.carry_out.ensures

pub returns-in-Err : goal.returns-in-Err
returns-in-Err g c = fault_answers _ c.in-Err.fault _ _ _ _ _ c.in-Err.ensures.refused c.tell_fault.ensures
