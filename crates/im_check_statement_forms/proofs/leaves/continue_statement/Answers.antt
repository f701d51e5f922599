use Rattle.im_check_statement_forms.proofs.Alone.{continue_done, continue_fault}
use Rattle.im_check_statement_forms.proofs.leaves.continue_statement.Goals as goal

pub returns-then-may_continue-clause-leaf : goal.returns-then-may_continue-clause-leaf
returns-then-may_continue-clause-leaf c = continue_done c.args.position c.args.body.now c.args.at c.if-may_continue.ensures

pub returns-else-may_continue-clause-leaf : goal.returns-else-may_continue-clause-leaf
returns-else-may_continue-clause-leaf c = rw c.refused.ensures (continue_fault c.args.position c.args.body.now c.args.at c.if-may_continue.ensures)
