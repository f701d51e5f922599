use Rattle.im_cmd_lines.proofs.source_fault.send_source_fault.Goals as goal

pub returns-in-OutOfMemory : goal.returns-in-OutOfMemory
returns-in-OutOfMemory g c = rw c.in-OutOfMemory.is c.send_about.ensures
