use Rattle.im_print_parts.proofs.Writing.{writes_append, writes_first}
use Rattle.im_print.proofs.statements.put_head.Goals as goal

pub returns : goal.returns
returns c = writes_first c.in_ok-put_keyword.ensures (writes_first c.in_ok-put_mark.ensures (writes_append c.in_ok-put_expression.ensures c.in_ok-put_mark-2.ensures))
