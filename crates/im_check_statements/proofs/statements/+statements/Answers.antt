use Rattle.std.proofs.Common.{length, take, ap, sym, ◌∙◌}
use Rattle.std.proofs.lemmas.Result.{err_from_is_err_and}
use Rattle.im_ctree.specs.Shape.{block_items_of}
use Rattle.im_ctree_parts.specs.Lists.{expression_in, statement_in}
use Rattle.im_ctree_parts.proofs.Shapes.{block_tree, switch_tree}
use Rattle.im_check_statement_forms.specs.Opening.{with_scope}
use Rattle.im_check_statement_forms.proofs.Alone.{stray_case, stray_default}
use Rattle.im_check_statements.proofs.Cases as k
use Rattle.im_check_statements.proofs.Composed as s
use Rattle.im_check_statements.proofs.Items as i
use Rattle.im_check_statements.proofs.Items.{next, last}
use Rattle.im_check_statements.proofs.Loops as o
use Rattle.im_check_statements.proofs.Trees.{if_tree, held_tree}
use Rattle.im_check_statements.proofs.statements.+statements.Goals as goal

pub statement-returns-in-Case : goal.statement-returns-in-Case
statement-returns-in-Case t c = rw (c.stray_label.ensures, c.in-Case.is) (stray_case c.args.position c.args.body.now c.args.s.now.at _ _)

pub statement-returns-in-Default : goal.statement-returns-in-Default
statement-returns-in-Default t c = rw (c.stray_label-in-Default.ensures, c.in-Default.is) (stray_default c.args.position c.args.body.now c.args.s.now.at _)

pub block_statement-returns-in_err-done : goal.block_statement-returns-in_err-done
block_statement-returns-in_err-done t c =
    let p = err_from_is_err_and c.from_residual-in_err-done.result c.from_residual-in_err-done.ensures.1 in
    let l = c.in-Block.list in
    rw (p.1, p.2, c.in-Block.is, block_tree c.args.s.now.at l) (s.block_fault c.args.position c.args.s.now.at l.at (block_items_of l.items.items) _ c.in_ok-mark.ensures.0 (rw c.deref.ensures.value at c.in_err-done.ensures))

pub block_statement-returns : goal.block_statement-returns
block_statement-returns t c =
    let l = c.in-Block.list in
    let b = c.items.new.body in
    let ended = c.closed.ensures ∙ ap (λ n. with_scope (take n b.place.scope) b) c.in_ok-mark.ensures.1 in
    rw (c.in-Block.is, block_tree c.args.s.now.at l) (s.done_block c.args.s.now.at l.at c.in_ok-mark.ensures.0 (rw c.deref.ensures.value at c.in_ok-done.ensures) ended c.block_made.ensures)

pub if_statement-returns-in_err-test : goal.if_statement-returns-in_err-test
if_statement-returns-in_err-test t c =
    let p = err_from_is_err_and c.from_residual.result c.from_residual.ensures.1 in
    let m = c.in-If in
    rw (p.1, p.2, m.is, if_tree c.args.s.now.at m.e m.first m.second) (s.if_test_fault c.args.position c.args.body.now c.args.s.now.at (expression_in m.e) (statement_in m.first.value) (held_tree m.second) _ c.in_err-test.ensures)

pub if_statement-returns-in_err-u : goal.if_statement-returns-in_err-u
if_statement-returns-in_err-u t c =
    let p = err_from_is_err_and c.from_residual-in_err-u.result c.from_residual-in_err-u.ensures.1 in
    let m = c.in-If in
    rw (p.1, p.2, m.is, if_tree c.args.s.now.at m.e m.first m.second) (s.if_first_fault c.args.position c.args.s.now.at (statement_in m.first.value) (held_tree m.second) _ c.in_ok-test.ensures (rw c.deref.ensures at c.in_err-u.ensures))

pub if_statement-returns-in-None : goal.if_statement-returns-in-None
if_statement-returns-in-None t c =
    let m = c.in-If in
    rw (m.is, if_tree c.args.s.now.at m.e m.first m.second, c.in-None.is)
    (s.made_of _ _ c.args.body.now c.args.position _ c.if_made.result
    (λ w. s.done_if_alone c.args.s.now.at c.block_made.result c.in_ok-test.ensures (rw c.deref.ensures at c.in_ok-u.ensures) (λ types. rw c.new.ensures.items at (c.block_made.ensures types))) c.if_made.ensures)

pub if_statement-returns-in_err-v-in-Some : goal.if_statement-returns-in_err-v-in-Some
if_statement-returns-in_err-v-in-Some t c =
    let p = err_from_is_err_and c.from_residual-in_err-v-in-Some.result c.from_residual-in_err-v-in-Some.ensures.1 in
    let m = c.in-If in
    rw (p.1, p.2, m.is, if_tree c.args.s.now.at m.e m.first m.second, c.in-Some.is)
    (s.if_second_fault c.args.s.now.at (statement_in c.in-Some.other.value) _ c.in_ok-test.ensures (rw c.deref.ensures at c.in_ok-u.ensures) (rw c.deref-in-Some.ensures at c.in_err-v-in-Some.ensures))

pub if_statement-returns-in_ok-v-in-Some : goal.if_statement-returns-in_ok-v-in-Some
if_statement-returns-in_ok-v-in-Some t c =
    let m = c.in-If in
    rw (m.is, if_tree c.args.s.now.at m.e m.first m.second, c.in-Some.is)
    (s.made_of _ _ c.args.body.now c.args.position _ c.if_made-in-Some.result
    (λ w. s.done_if c.args.s.now.at c.in_ok-test.ensures (rw c.deref.ensures at c.in_ok-u.ensures) (rw c.deref-in-Some.ensures at c.in_ok-v-in-Some.ensures)) c.if_made-in-Some.ensures)

pub while_statement-returns-in_err-test : goal.while_statement-returns-in_err-test
while_statement-returns-in_err-test t c =
    let p = err_from_is_err_and c.from_residual.result c.from_residual.ensures.1 in
    let m = c.in-While in
    rw (p.1, p.2, m.is) (o.while_test_fault c.args.position c.args.body.now c.args.s.now.at (expression_in m.e) (statement_in m.turn.value) _ c.in_err-test.ensures)

pub while_statement-returns-in_err-u : goal.while_statement-returns-in_err-u
while_statement-returns-in_err-u t c =
    let p = err_from_is_err_and c.from_residual-in_err-u.result c.from_residual-in_err-u.ensures.1 in
    let m = c.in-While in
    rw (p.1, p.2, m.is) (o.while_body_fault c.args.position c.args.s.now.at (statement_in m.turn.value) _ c.in_ok-test.ensures (rw (c.deref.ensures, c.looped.ensures) at c.in_err-u.ensures))

pub while_statement-returns : goal.while_statement-returns
while_statement-returns t c =
    let m = c.in-While in
    rw m.is
    (s.made_of _ _ c.args.body.now c.args.position _ c.while_made.result
    (λ w. o.done_while c.args.s.now.at c.in_ok-test.ensures (rw (c.deref.ensures, c.looped.ensures) at c.in_ok-u.ensures)) c.while_made.ensures)

pub do_statement-returns-in_err-u : goal.do_statement-returns-in_err-u
do_statement-returns-in_err-u t c =
    let p = err_from_is_err_and c.from_residual.result c.from_residual.ensures.1 in
    let m = c.in-DoWhile in
    rw (p.1, p.2, m.is) (o.do_body_fault c.args.position c.args.body.now c.args.s.now.at (expression_in m.e) (statement_in m.turn.value) _ (rw (c.deref.ensures, c.looped.ensures) at c.in_err-u.ensures))

pub do_statement-returns-in_err-test : goal.do_statement-returns-in_err-test
do_statement-returns-in_err-test t c =
    let p = err_from_is_err_and c.from_residual-in_err-test.result c.from_residual-in_err-test.ensures.1 in
    let m = c.in-DoWhile in
    rw (p.1, p.2, m.is) (o.do_test_fault c.args.position c.args.s.now.at (expression_in m.e) _ (rw (c.deref.ensures, c.looped.ensures) at c.in_ok-u.ensures) c.in_err-test.ensures)

pub do_statement-returns : goal.do_statement-returns
do_statement-returns t c =
    let m = c.in-DoWhile in
    rw m.is
    (s.made_of _ _ c.args.body.now c.args.position _ c.do_made.result
    (λ w. o.done_do c.args.s.now.at (rw (c.deref.ensures, c.looped.ensures) at c.in_ok-u.ensures) c.in_ok-test.ensures) c.do_made.ensures)

pub for_statement-returns-in_err-h : goal.for_statement-returns-in_err-h
for_statement-returns-in_err-h t c =
    let p = err_from_is_err_and c.from_residual.result c.from_residual.ensures.1 in
    let m = c.in-For in
    rw (p.1, p.2, m.is) (c.in_err-h.ensures c.args.position (statement_in m.turn.value))

pub for_statement-returns-in_err-u : goal.for_statement-returns-in_err-u
for_statement-returns-in_err-u t c =
    let p = err_from_is_err_and c.from_residual-in_err-u.result c.from_residual-in_err-u.ensures.1 in
    let m = c.in-For in
    rw (p.1, p.2, m.is) (o.for_body_fault c.args.position c.args.s.now.at (statement_in m.turn.value) _ c.in_ok-h.ensures (rw (c.deref.ensures, c.looped.ensures) at c.in_err-u.ensures))

pub for_statement-returns : goal.for_statement-returns
for_statement-returns t c =
    let m = c.in-For in
    let b = c.statement.new.body in
    let ended = c.closed.ensures ∙ ap (λ n. with_scope (take n b.place.scope) b) c.mark-mark.ensures in
    rw m.is
    (s.made_of _ _ c.args.body.now c.args.position _ c.for_made.result
    (λ w. o.done_for c.args.s.now.at c.in_ok-h.ensures (rw (c.deref.ensures, c.looped.ensures) at c.in_ok-u.ensures) ended) c.for_made.ensures)

pub switch_statement-returns-in_err-chosen : goal.switch_statement-returns-in_err-chosen
switch_statement-returns-in_err-chosen t c =
    let p = err_from_is_err_and c.from_residual.result c.from_residual.ensures.1 in
    let m = c.in-Switch in
    rw (p.1, p.2, m.is, switch_tree c.args.s.now.at m.e m.list) (o.selector_fault c.args.position c.args.body.now c.args.s.now.at (expression_in m.e) _ _ c.in_err-chosen.ensures)

pub switch_statement-returns-in_err-done : goal.switch_statement-returns-in_err-done
switch_statement-returns-in_err-done t c =
    let p = err_from_is_err_and c.from_residual-in_err-done.result c.from_residual-in_err-done.ensures.1 in
    let m = c.in-Switch in
    rw (p.1, p.2, m.is, switch_tree c.args.s.now.at m.e m.list) (o.cases_fault c.args.position c.args.s.now.at m.list.at (block_items_of m.list.items.items) _ c.in_ok-chosen.ensures c.in_ok-mark.ensures.0 (rw (c.deref.ensures.value, c.switched-inside.ensures) at c.in_err-done.ensures))

pub switch_statement-returns : goal.switch_statement-returns
switch_statement-returns t c =
    let m = c.in-Switch in
    let b = c.cases.new.body in
    let ended = c.closed.ensures ∙ ap (λ n. with_scope (take n b.place.scope) b) c.in_ok-mark.ensures.1 in
    rw (m.is, switch_tree c.args.s.now.at m.e m.list)
    (s.made_of _ _ c.args.body.now c.args.position _ c.switch_made.result
    (λ w. o.done_switch c.args.s.now.at m.list.at c.in_ok-chosen.ensures c.in_ok-mark.ensures.0 (rw (c.deref.ensures.value, c.switched-inside.ensures) at c.in_ok-done.ensures) ended) c.switch_made.ensures)

pub items-loop-x-init : goal.items-loop-x-init
items-loop-x-init t c = rw c.new-done.ensures.items (i.reached_none _ _ _)

pub items-loop-x-preserved : goal.items-loop-x-preserved
items-loop-x-preserved t c =
    let at = next c.args.list.now c.loop-x.x-index c.x-item.result c.loop-x-test.true c.x-item.is in
    i.reached_more at c.loop-x.invariant c.in_ok-item.ensures

pub items-returns-in_err-item : goal.items-returns-in_err-item
items-returns-in_err-item t c =
    let p = err_from_is_err_and c.from_residual.result c.from_residual.ensures.1 in
    let at = next c.args.list.now c.loop-x.x-index c.x-item.result c.loop-x-test.true c.x-item.is in
    rw (p.1, p.2) (i.reached_fault _ at c.loop-x.invariant c.in_err-item.ensures)

pub items-returns : goal.items-returns
items-returns t c = i.reached_all (last c.args.list.now c.loop-x.x-index c.loop-x-test.false) c.loop-x.invariant

pub item-returns-in-Declaration : goal.item-returns-in-Declaration
item-returns-in-Declaration t c = rw c.in-Declaration.is (i.declared_result c.args.position c.args.body.now _ c.args.done.now.items _ c.in-Declaration.d c.declaration.result c.declaration.ensures)

pub item-returns-in_err-u-in-Statement : goal.item-returns-in_err-u-in-Statement
item-returns-in_err-u-in-Statement t c =
    let p = err_from_is_err_and c.from_residual.result c.from_residual.ensures.1 in
    rw (p.1, p.2, c.in-Statement.is) (i.stated_fault c.args.position c.args.body.now c.in-Statement.s _ c.in_err-u-in-Statement.ensures)

pub item-returns-in_ok-push-in-Statement : goal.item-returns-in_ok-push-in-Statement
item-returns-in_ok-push-in-Statement t c = rw c.in-Statement.is (i.item_stated c.in-Statement.s c.in_ok-u-in-Statement.ensures c.in_ok-push-in-Statement.ensures.items)

pub cases-loop-x-init : goal.cases-loop-x-init
cases-loop-x-init t c = rw c.new-done.ensures.items (k.cases_none _ _ _ _ _ c.requires.told c.requires.no_case c.requires.no_default)

pub cases-loop-x-preserved : goal.cases-loop-x-preserved
cases-loop-x-preserved t c =
    let at = next c.args.list.now c.loop-x.x-index c.x-item.result c.loop-x-test.true c.x-item.is in
    k.cases_more at c.loop-x.invariant c.in_ok-case_item.ensures

pub cases-returns-in_err-case_item : goal.cases-returns-in_err-case_item
cases-returns-in_err-case_item t c =
    let p = err_from_is_err_and c.from_residual.result c.from_residual.ensures.1 in
    let at = next c.args.list.now c.loop-x.x-index c.x-item.result c.loop-x-test.true c.x-item.is in
    rw (p.1, p.2) (k.cases_reached_fault _ at c.loop-x.invariant c.in_err-case_item.ensures)

pub cases-returns : goal.cases-returns
cases-returns t c = k.cases_all (last c.args.list.now c.loop-x.x-index c.loop-x-test.false) c.loop-x.invariant

pub case_item-returns-in-Declaration : goal.case_item-returns-in-Declaration
case_item-returns-in-Declaration t c = rw c.in-Declaration.is (k.case_declared_result c.args.ty c.args.position c.args.body.now _ c.args.done.now.items _ c.args.labels.now c.in-Declaration.d c.declaration.result c.requires c.declaration.ensures)

pub case_item-returns-in_err-u-in-Statement : goal.case_item-returns-in_err-u-in-Statement
case_item-returns-in_err-u-in-Statement t c =
    let p = err_from_is_err_and c.from_residual-in_err-u-in-Statement.result c.from_residual-in_err-u-in-Statement.ensures.1 in
    let e = c.in_ok-n-in-Statement.ensures ∙ ap length c.deref.ensures.value in
    rw (p.1, p.2, c.in-Statement.is) (k.case_stated_fault c.args.ty c.args.position c.args.body.now c.in_ok-n-in-Statement.n _ c.args.labels.now c.in-Statement.s _ e c.in_err-u-in-Statement.ensures)

pub case_item-returns-in_ok-push-in-Statement : goal.case_item-returns-in_ok-push-in-Statement
case_item-returns-in_ok-push-in-Statement t c =
    let e = c.in_ok-n-in-Statement.ensures ∙ ap length c.deref.ensures.value in
    rw c.in-Statement.is (k.case_stated c.in-Statement.s c.in_ok-u-in-Statement.ensures e c.in_ok-push-in-Statement.ensures.items)

pub labelled-returns-then-not-is_label : goal.labelled-returns-then-not-is_label
labelled-returns-then-not-is_label t c =
    k.unlabelled_result c.args.ty c.args.n c.args.position c.args.body.now _ c.args.labels.now (statement_in c.args.s.now) c.statement.result (sym c.if-not-is_label.ensures) c.requires c.statement.ensures

pub labelled-returns-in_err-case_label-in-Case : goal.labelled-returns-in_err-case_label-in-Case
labelled-returns-in_err-case_label-in-Case t c =
    let p = err_from_is_err_and c.from_residual.result c.from_residual.ensures.1 in
    let m = c.in-Case in
    rw (p.1, p.2, m.is) (k.case_fault c.args.ty c.args.n c.args.position c.args.body.now c.args.labels.now c.args.s.now.at (expression_in m.e) (statement_in m.inner.value) _ c.in_err-case_label-in-Case.ensures)

pub labelled-returns-in_ok-case_label-in-Case : goal.labelled-returns-in_ok-case_label-in-Case
labelled-returns-in_ok-case_label-in-Case t c =
    let m = c.in-Case in
    rw m.is (k.behind_case_result c.args.position _ _ c.args.s.now.at (statement_in m.inner.value) c.labelled.result c.in_ok-case_label-in-Case.ensures (rw c.deref.ensures at c.labelled.ensures))

pub labelled-returns-in_err-default_label-in-Default : goal.labelled-returns-in_err-default_label-in-Default
labelled-returns-in_err-default_label-in-Default t c =
    let p = err_from_is_err_and c.from_residual-in_err-default_label-in-Default.result c.from_residual-in_err-default_label-in-Default.ensures.1 in
    let m = c.in-Default in
    rw (p.1, p.2, m.is) (k.default_fault c.args.ty c.args.n c.args.position c.args.body.now c.args.labels.now c.args.s.now.at (statement_in m.inner.value) _ c.in_err-default_label-in-Default.ensures.added)

pub labelled-returns-in_ok-default_label-in-Default : goal.labelled-returns-in_ok-default_label-in-Default
labelled-returns-in_ok-default_label-in-Default t c =
    let m = c.in-Default in
    rw m.is (k.behind_default_result c.args.ty c.args.position c.args.body.now _ _ c.args.s.now.at (statement_in m.inner.value) c.labelled-in-Default.result c.in_ok-default_label-in-Default.ensures.added (rw c.deref-in-Default.ensures at c.labelled-in-Default.ensures))
