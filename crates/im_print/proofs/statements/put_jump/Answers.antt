use Rattle.im_print_parts.proofs.Writing.{writes_first}
use Rattle.im_print.proofs.statements.put_jump.Goals as goal

pub returns : goal.returns
returns c = writes_first c.in_ok-put_keyword.ensures c.in_ok-put_mark.ensures
