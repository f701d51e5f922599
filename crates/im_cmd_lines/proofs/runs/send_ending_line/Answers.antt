use Rattle.im_cmd_lines.proofs.runs.send_ending_line.Goals as goal

pub returns-in-StackExhausted : goal.returns-in-StackExhausted
returns-in-StackExhausted g c = rw c.in-StackExhausted.is c.send.ensures

pub returns-in-OutOfPower : goal.returns-in-OutOfPower
returns-in-OutOfPower g c = rw c.in-OutOfPower.is c.send-in-OutOfPower.ensures

pub returns-in-MachineFault : goal.returns-in-MachineFault
returns-in-MachineFault g c = rw c.in-MachineFault.is (rw c.hex_text.ensures at c.send_pieces-in-MachineFault.ensures)
