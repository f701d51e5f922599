use Rattle.std.proofs.Common.{rules, ap}
use Rattle.im_typed.proofs.RowCounts.{nodes_of, call-nodes}
use Rattle.im_typed.proofs.counts.+nodes.Goals as goal

pub count_behind-returns-in-Call-clause-nodes : goal.count_behind-returns-in-Call-clause-nodes
count_behind-returns-in-Call-clause-nodes t c = λ types.
    let same = ap (nodes_of types) c.in-Call.is in
    let counted = call-nodes types c.in-Call.field-0 c.in-Call.arguments in
    let h = c.count_arguments.ensures types in
    search (rules, same, counted, h)

pub count_place-returns-in_default-Some : goal.count_place-returns-in_default-Some
count_place-returns-in_default-Some t c = λ types.
    let members = c.count_members.ensures.nodes types in
    let one = c.count_expression.ensures types in
    let sum = c.saturating_add.ensures in
    search (rules, members, one, sum)
