use Rattle.std.proofs.Common.{rules, sym, ap, ◌∙◌}
use Rattle.im_ctree.specs.Shape.{statement_of}
use Rattle.im_ctree.specs.Typedefs.{names_behind}
use Rattle.im_ctree_parts.specs.Lists.{statement_in}
use Rattle.im_ctree_parts.proofs.Shapes.{block_tree, switch_tree}
use Rattle.im_print_relation.specs.Printed as printed
use Rattle.im_print_parts.specs.Output.{known}
use Rattle.im_print_parts.specs.Parts as parts
use Rattle.im_print_parts.proofs.Writing.{writes_append, writes_first, writes_same, writes_behind, writes_headed}
use Rattle.im_print.proofs.Steps.{items_step, items_known_step, if_tree}
use Rattle.im_print.proofs.statements.+stating.Goals as goal

pub put_else-returns-in_ok-put_statement-in-Some-clause-written : goal.put_else-returns-in_ok-put_statement-in-Some-clause-written
put_else-returns-in_ok-put_statement-in-Some-clause-written t c = writes_same (sym (ap (λ v. printed.else_part (known c.args.names.now.items) (parts.other_from v)) c.in-Some.is)) (writes_first c.in_ok-put_keyword-in-Some.ensures (rw c.deref.ensures at c.in_ok-put_statement-in-Some.ensures.written))

pub put_while-returns-clause-written : goal.put_while-returns-clause-written
put_while-returns-clause-written t c = writes_headed _ _ (rw c.deref.ensures.value at c.in_ok-put_head.ensures) c.in_ok-put_statement.ensures.written

pub put_do-returns-clause-written : goal.put_do-returns-clause-written
put_do-returns-clause-written t c = writes_first c.in_ok-put_keyword.ensures (writes_append c.in_ok-put_statement.ensures.written (writes_headed _ _ (rw (c.deref.ensures.value, c.in_ok-put_statement.ensures.known) at c.in_ok-put_head.ensures) c.in_ok-put_mark.ensures))

pub put_for-returns-clause-written : goal.put_for-returns-clause-written
put_for-returns-clause-written t c = writes_first c.in_ok-put_keyword.ensures (writes_first c.in_ok-put_mark.ensures (writes_append c.in_ok-put_init.ensures.written (writes_behind _ _ (rw (c.deref.ensures.value, c.in_ok-put_init.ensures.known) at c.in_ok-put_line.ensures) (writes_append (rw (c.deref-2.ensures.value, c.in_ok-put_init.ensures.known) at c.in_ok-put_maybe.ensures) (writes_first c.in_ok-put_mark-2.ensures (rw c.in_ok-put_init.ensures.known at c.in_ok-put_statement.ensures.written))))))

pub put_for-returns-clause-known : goal.put_for-returns-clause-known
put_for-returns-clause-known t c = c.in_ok-put_statement.ensures.known ∙ ap (λ z. names_behind z (statement_in c.args.body.now)) c.in_ok-put_init.ensures.known

pub put_switch-returns-clause-written : goal.put_switch-returns-clause-written
put_switch-returns-clause-written t c = writes_headed _ _ (rw c.deref.ensures.value at c.in_ok-put_head.ensures) c.in_ok-put_block.ensures.written

pub put_case-returns-clause-written : goal.put_case-returns-clause-written
put_case-returns-clause-written t c = writes_first c.in_ok-put_keyword.ensures (writes_append (rw c.deref.ensures.value at c.in_ok-put_at.ensures) (writes_first c.in_ok-put_mark.ensures c.in_ok-put_statement.ensures.written))

pub put_default-returns-clause-written : goal.put_default-returns-clause-written
put_default-returns-clause-written t c = writes_first c.in_ok-put_keyword.ensures (writes_first c.in_ok-put_mark.ensures c.in_ok-put_statement.ensures.written)

pub put_block-returns-clause-written : goal.put_block-returns-clause-written
put_block-returns-clause-written t c = writes_first c.in_ok-put_mark.ensures (writes_append c.in_ok-put_items.ensures.written c.in_ok-put_mark-2.ensures)

pub put_items-loop-item-preserved : goal.put_items-loop-item-preserved
put_items-loop-item-preserved t c =
    let T = known c.loop-item.names.items in
    let xs = c.args.items.now in
    let i = c.loop-item.item-index in
    let x = c.item-item.result in
    (items_step T _ xs i x c.in_ok-put_item.ensures.written c.in_ok-put_item.ensures.known c.loop-item-test.true c.item-item.is ∙ c.loop-item.invariant.0, items_known_step T _ xs i x c.in_ok-put_item.ensures.known c.loop-item-test.true c.item-item.is ∙ c.loop-item.invariant.1)

pub put_statement-returns-in-Block-clause-written : goal.put_statement-returns-in-Block-clause-written
put_statement-returns-in-Block-clause-written t c =
    let T = known c.args.names.now.items in
    let same = ap (λ k. printed.statement T (statement_of c.args.statement.now.at k)) c.in-Block.is in
    let made = ap (printed.statement T) (block_tree c.args.statement.now.at c.in-Block.block) in
    search (rules, same, made)

pub put_statement-returns-in-Block-clause-known : goal.put_statement-returns-in-Block-clause-known
put_statement-returns-in-Block-clause-known t c =
    let T = known c.args.names.now.items in
    let same = ap (λ k. names_behind T (statement_of c.args.statement.now.at k)) c.in-Block.is in
    let made = ap (names_behind T) (block_tree c.args.statement.now.at c.in-Block.block) in
    search (rules, same, made)

pub put_statement-returns-in-Switch-clause-written : goal.put_statement-returns-in-Switch-clause-written
put_statement-returns-in-Switch-clause-written t c =
    let T = known c.args.names.now.items in
    let same = ap (λ k. printed.statement T (statement_of c.args.statement.now.at k)) c.in-Switch.is in
    let made = ap (printed.statement T) (switch_tree c.args.statement.now.at c.in-Switch.value c.in-Switch.block) in
    search (rules, same, made)

pub put_statement-returns-in-Switch-clause-known : goal.put_statement-returns-in-Switch-clause-known
put_statement-returns-in-Switch-clause-known t c =
    let T = known c.args.names.now.items in
    let same = ap (λ k. names_behind T (statement_of c.args.statement.now.at k)) c.in-Switch.is in
    let made = ap (names_behind T) (switch_tree c.args.statement.now.at c.in-Switch.value c.in-Switch.block) in
    search (rules, same, made)

pub put_statement-returns-in_ok-put_else-in-If-clause-written : goal.put_statement-returns-in_ok-put_else-in-If-clause-written
put_statement-returns-in_ok-put_else-in-If-clause-written t c =
    let T = known c.args.names.now.items in
    let same = ap (λ k. printed.statement T (statement_of c.args.statement.now.at k)) c.in-If.is in
    let made = ap (printed.statement T) (if_tree c.args.statement.now.at c.in-If.test c.in-If.body c.in-If.other) in
    let head = rw c.deref-in-If.ensures.value at c.in_ok-put_head-in-If.ensures in
    let body = rw c.deref-in-If-2.ensures at c.in_ok-put_statement-in-If.ensures.written in
    let other = rw (c.in_ok-put_statement-in-If.ensures.known, c.deref-in-If-2.ensures) at c.in_ok-put_else-in-If.ensures.written in
    writes_same (sym (same ∙ made)) (writes_headed _ _ head (writes_append body other))

pub put_statement-returns-in_ok-put_else-in-If-clause-known : goal.put_statement-returns-in_ok-put_else-in-If-clause-known
put_statement-returns-in_ok-put_else-in-If-clause-known t c =
    let T = known c.args.names.now.items in
    let same = ap (λ k. names_behind T (statement_of c.args.statement.now.at k)) c.in-If.is in
    let made = ap (names_behind T) (if_tree c.args.statement.now.at c.in-If.test c.in-If.body c.in-If.other) in
    let other = rw (c.in_ok-put_statement-in-If.ensures.known, c.deref-in-If-2.ensures) at c.in_ok-put_else-in-If.ensures.known in
    other ∙ sym (same ∙ made)
