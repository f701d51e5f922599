use Rattle.std.proofs.Common.{rules}
use Rattle.im_cmd.specs.Stages.{faulty_memory, memory_starved}
use Rattle.im_cmd.proofs.resuming.resume_text.Goals as goal

pub returns-in-Err-OutOfMemory : goal.returns-in-Err-OutOfMemory
returns-in-Err-OutOfMemory c = memory_starved

pub returns-in-Err : goal.returns-in-Err
returns-in-Err c = faulty_memory c.in-Err.fault (search rules)
