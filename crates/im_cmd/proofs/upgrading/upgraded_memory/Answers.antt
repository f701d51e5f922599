use Rattle.std.proofs.Common.{rules}
use Rattle.im_cmd.specs.Stages.{faulty_memory, memory_starved}
use Rattle.im_cmd.specs.Upgrades.{of_memory}
use Rattle.im_cmd.proofs.upgrading.upgraded_memory.Goals as goal

pub returns-in-Ok-write_memory : goal.returns-in-Ok-write_memory
returns-in-Ok-write_memory c = of_memory _ _ _ _ c.in-Ok.ensures.text c.in-Ok-write_memory.ensures

pub returns-in-Err-OutOfMemory : goal.returns-in-Err-OutOfMemory
returns-in-Err-OutOfMemory c = memory_starved

pub returns-in-Err : goal.returns-in-Err
returns-in-Err c = faulty_memory c.in-Err.fault (search rules)

pub returns : goal.returns
returns c = memory_starved
