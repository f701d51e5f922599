use Rattle.im_print_parts.proofs.Writing.{writes_append}
use Rattle.im_print.proofs.statements.put_line.Goals as goal

pub returns : goal.returns
returns c = writes_append c.in_ok-put_maybe.ensures c.in_ok-put_mark.ensures
