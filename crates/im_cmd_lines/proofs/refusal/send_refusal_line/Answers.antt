use Rattle.im_cmd_lines.proofs.refusal.send_refusal_line.Goals as goal

pub returns-in-CannotRead : goal.returns-in-CannotRead
returns-in-CannotRead g c = rw c.in-CannotRead.is (rw c.as_bytes.ensures.value at c.send_pieces.ensures)

pub returns-in-BadSource : goal.returns-in-BadSource
returns-in-BadSource g c = rw c.in-BadSource.is c.send_source_fault.ensures
