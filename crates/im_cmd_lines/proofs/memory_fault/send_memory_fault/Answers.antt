use Rattle.im_cmd_lines.proofs.memory_fault.send_memory_fault.Goals as goal

pub returns-in-Trailing : goal.returns-in-Trailing
returns-in-Trailing g c = rw c.in-Trailing.is c.send_numbered-in-Trailing.ensures
