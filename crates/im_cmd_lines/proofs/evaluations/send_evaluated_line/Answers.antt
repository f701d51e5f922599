use Rattle.im_cmd_lines.proofs.evaluations.send_evaluated_line.Goals as goal

pub returns-in-StackExhausted : goal.returns-in-StackExhausted
returns-in-StackExhausted g c = rw c.in-StackExhausted.is c.send.ensures

pub returns-in-Undefined : goal.returns-in-Undefined
returns-in-Undefined g c =
    rw c.in-Undefined.is
    (rw (c.as_bytes-in-Undefined.ensures.value, c.format-in-Undefined.ensures.text, c.number.ensures) at c.send_pieces-in-Undefined.ensures)

pub returns-in-OutOfFuel : goal.returns-in-OutOfFuel
returns-in-OutOfFuel g c = rw c.in-OutOfFuel.is c.send-in-OutOfFuel.ensures
