use Rattle.std.proofs.Common.{rules, ap}
use Rattle.im_typed.proofs.RowCounts.{nodes_in, block-nodes, switch-nodes}
use Rattle.im_typed.proofs.counts.+statements.Goals as goal

pub count_statement-returns-in-Block : goal.count_statement-returns-in-Block
count_statement-returns-in-Block t c = λ types.
    let same = ap (nodes_in types) c.in-Block.is in
    let counted = block-nodes types c.in-Block.statements in
    search (rules, same, counted)

pub count_statement-returns-in-Switch : goal.count_statement-returns-in-Switch
count_statement-returns-in-Switch t c = λ types.
    let same = ap (nodes_in types) c.in-Switch.is in
    let counted = switch-nodes types c.in-Switch.value c.in-Switch.cases c.in-Switch.otherwise c.in-Switch.block in
    search (rules, same, counted)
