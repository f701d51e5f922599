use Rattle.im_check_statement_forms.proofs.Alone.{break_done, break_fault}
use Rattle.im_check_statement_forms.proofs.leaves.break_statement.Goals as goal

pub returns-then-may_break-clause-leaf : goal.returns-then-may_break-clause-leaf
returns-then-may_break-clause-leaf c = break_done c.args.position c.args.body.now c.args.at c.if-may_break.ensures

pub returns-else-may_break-clause-leaf : goal.returns-else-may_break-clause-leaf
returns-else-may_break-clause-leaf c = rw c.refused.ensures (break_fault c.args.position c.args.body.now c.args.at c.if-may_break.ensures)
