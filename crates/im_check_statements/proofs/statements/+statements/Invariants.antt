use Rattle.im_check_statements.specs.Checked.{ItemsReached, CasesReached}
use Rattle.im_check_statements.proofs.statements.+statements.Given as goal

abbrev pub invariant-items-loop-x : goal.invariant-items-loop-x
invariant-items-loop-x l = ItemsReached l.position l.fn.body l.body l.done.items l.list l.x-index

abbrev pub invariant-cases-loop-x : goal.invariant-cases-loop-x
invariant-cases-loop-x l = CasesReached l.ty l.position l.fn.body l.body l.done.items l.labels l.list l.x-index
