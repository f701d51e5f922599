use Rattle.std.proofs.Common.{map, arith, refl, ◌∙◌, ap, sym}
use Rattle.im_ctree.specs.Typedefs.{names_behind_items}
use Rattle.std.proofs.lemmas.Result.{err_from_is_err_and}
use Rattle.im_word.specs.Shown.{shown}
use Rattle.im_parse_core.proofs.Steps.{last, last_refused}
use Rattle.im_parse_expression.proofs.Exits.{stopped, handed, shorter}
use Rattle.im_parse_expression.proofs.NextWord.{isnt_so}
use Rattle.im_parse_statement.specs.declared.start.StatementStart.TheVariants as variant
use Rattle.im_parse_statement.specs.Statements.{statement_tree, item_tree}
use Rattle.im_parse_statement.proofs.Rows.{items_before}
use Rattle.im_parse_statement.proofs.Closing.{misses_closing, reads_closing}
use Rattle.im_parse_statement.proofs.Forms.{some_statement, some_block, by_keyword, by_brace, by_expression}
use Rattle.im_parse_statement.proofs.BranchLines.{if_start, refuses_if, if_body, refuses_body, if_else, reads_alone, if_other, refuses_head, head_body, switch_start, anything, case_start, refuses_case, case_colon, default_start, misses_colon, labelled, block_part}
use Rattle.im_parse_statement.proofs.LoopLines.{while_start, do_start, refuses_do, do_while, misses_while, do_condition, refuses_last, do_end, misses_paren, for_start, refuses_init, for_test, refuses_test, for_step, refuses_step, for_body}
use Rattle.im_parse_statement.proofs.ItemLines.{misses_brace, in_block, refuses_items, reads_block, items_start, reads_items, moved_items, items_more, refuses_item, item_advances, items_next, items_item, moved_next, item_declared, item_stated}
use Rattle.im_parse_statement.proofs.+statement.Goals as goal

pub blocks::block-returns-in_err-inside-clause-parses : goal.blocks::block-returns-in_err-inside-clause-parses
blocks::block-returns-in_err-inside-clause-parses t c = let p = err_from_is_err_and c.from_residual.result c.from_residual.ensures.1 in rw (p.1, p.2, c.in_err-inside.ensures.0) (misses_brace (map shown c.args.words.now) c.args.names.now c.in_err-inside.ensures.1)

pub blocks::block-returns-in_err-items-clause-parses : goal.blocks::block-returns-in_err-items-clause-parses
blocks::block-returns-in_err-items-clause-parses t c = let p = err_from_is_err_and c.from_residual-in_err-items.result c.from_residual-in_err-items.ensures.1 in rw (p.1, p.2) (stopped (map shown c.args.words.now) (λ n h. refuses_items (map shown c.args.words.now) (in_block (map shown c.args.words.now) c.args.names.now c.in_ok-inside.ensures) h) _ c.in_err-items.ensures.parses)

pub blocks::block-returns-clause-parses : goal.blocks::block-returns-clause-parses
blocks::block-returns-clause-parses t c = rw (c.shrink_to_fit.ensures.items, items_before) (reads_block (map shown c.args.words.now) (in_block (map shown c.args.words.now) c.args.names.now c.in_ok-inside.ensures) c.in_ok-items.ensures.parses)

pub blocks::block-returns-clause-known : goal.blocks::block-returns-clause-known
blocks::block-returns-clause-known t c = rw c.shrink_to_fit.ensures.items (c.in_ok-items.ensures.known ∙ ap (λ z. names_behind_items c.args.names.now z) (sym (items_before c.in_ok-items.items.items)))

pub blocks::closed_items-loop-end-init : goal.blocks::closed_items-loop-end-init
blocks::closed_items-loop-end-init t c = (rw c.new-items.ensures.items (items_start (map shown c.args.words.now) c.args.names.now c.args.at), omega arith, rw c.new-items.ensures.items refl)

pub blocks::closed_items-returns-in-Some-clause-parses : goal.blocks::closed_items-returns-in-Some-clause-parses
blocks::closed_items-returns-in-Some-clause-parses t c = reads_items (map shown c.args.words.now) (map item_tree c.loop-end.items.items) c.in-Some.ensures c.loop-end.invariant.0

pub blocks::closed_items-returns-in-Some-clause-known : goal.blocks::closed_items-returns-in-Some-clause-known
blocks::closed_items-returns-in-Some-clause-known t c = c.loop-end.invariant.2 ∙ moved_items c.args.names.now (map item_tree c.loop-end.items.items)

pub blocks::closed_items-returns-in_err-item-clause-parses : goal.blocks::closed_items-returns-in_err-item-clause-parses
blocks::closed_items-returns-in_err-item-clause-parses t c = let p = err_from_is_err_and c.from_residual.result c.from_residual.ensures.1 in rw (p.1, p.2) (stopped (map shown c.args.words.now) (λ n h. refuses_item (map shown c.args.words.now) (map item_tree c.loop-end.items.items) (items_more (map shown c.args.words.now) (map item_tree c.loop-end.items.items) c.in_default.ensures c.loop-end.invariant.0) h) _ c.in_err-item.ensures.parses)

pub blocks::closed_items-loop-end-smaller : goal.blocks::closed_items-loop-end-smaller
blocks::closed_items-loop-end-smaller t c = shorter (map shown c.args.words.now) c.in_ok-item.ensures.parses (item_advances c.in_ok-item.ensures.parses)

pub blocks::closed_items-loop-end-preserved : goal.blocks::closed_items-loop-end-preserved
blocks::closed_items-loop-end-preserved t c = (rw (c.in_ok-push.ensures.items, items_item) (items_next (map shown c.args.words.now) (map item_tree c.loop-end.items.items) c.in_ok-item.ensures.known (items_more (map shown c.args.words.now) (map item_tree c.loop-end.items.items) c.in_default.ensures c.loop-end.invariant.0) c.in_ok-item.ensures.parses), omega (arith, c.loop-end.invariant.1, c.in_ok-item.ensures.parses.place), rw c.in_ok-push.ensures.items (moved_next c.args.names.now _ _ c.loop-end.items.items c.in_ok-item.item c.loop-end.invariant.2 c.in_ok-item.ensures.known))

pub blocks::block_item-returns-in_err-tree-clause-parses : goal.blocks::block_item-returns-in_err-tree-clause-parses
blocks::block_item-returns-in_err-tree-clause-parses t c = let p = err_from_is_err_and c.from_residual.result c.from_residual.ensures.1 in rw (p.1, p.2) (stopped (map shown c.args.words.now) (λ n h. last_refused h (item_declared (map shown c.args.words.now) c.args.names.now (c.begins_specifiers.ensures.0 c.if-begins_specifiers.true))) _ c.in_err-tree.ensures.parses)

pub blocks::block_item-returns-then-begins_specifiers-clause-parses : goal.blocks::block_item-returns-then-begins_specifiers-clause-parses
blocks::block_item-returns-then-begins_specifiers-clause-parses t c = last c.in_ok-tree.ensures.parses (item_declared (map shown c.args.words.now) c.args.names.now (c.begins_specifiers.ensures.0 c.if-begins_specifiers.true))

pub blocks::block_item-returns-in_err-tree-2-clause-parses : goal.blocks::block_item-returns-in_err-tree-2-clause-parses
blocks::block_item-returns-in_err-tree-2-clause-parses t c = let p = err_from_is_err_and c.from_residual-in_err-tree-2.result c.from_residual-in_err-tree-2.ensures.1 in rw (p.1, p.2) (stopped (map shown c.args.words.now) (λ n h. last_refused h (item_stated (map shown c.args.words.now) c.args.names.now (isnt_so c.begins_specifiers.ensures c.if-begins_specifiers.false))) _ c.in_err-tree-2.ensures.parses)

pub blocks::block_item-returns-clause-parses : goal.blocks::block_item-returns-clause-parses
blocks::block_item-returns-clause-parses t c = last c.in_ok-tree-2.ensures.parses (item_stated (map shown c.args.words.now) c.args.names.now (isnt_so c.begins_specifiers.ensures c.if-begins_specifiers.false))

pub branches::case_statement-returns-in_err-value-clause-parses : goal.branches::case_statement-returns-in_err-value-clause-parses
branches::case_statement-returns-in_err-value-clause-parses t c = let p = err_from_is_err_and c.from_residual.result c.from_residual.ensures.1 in rw (p.1, p.2) (stopped (map shown c.args.words.now) (λ n h. refuses_case (map shown c.args.words.now) (case_start (map shown c.args.words.now) c.args.names.now c.args.at c.args.behind) h) _ c.in_err-value.ensures)

pub branches::case_statement-returns-in_err-last-clause-parses : goal.branches::case_statement-returns-in_err-last-clause-parses
branches::case_statement-returns-in_err-last-clause-parses t c = let p = err_from_is_err_and c.from_residual-in_err-last.result c.from_residual-in_err-last.ensures.1 in rw (p.1, p.2, c.in_err-last.ensures.0) (misses_colon (map shown c.args.words.now) c.args.at variant.Case (case_colon (map shown c.args.words.now) (case_start (map shown c.args.words.now) c.args.names.now c.args.at c.args.behind) c.in_ok-value.ensures) c.in_err-last.ensures.1)

pub branches::case_statement-returns-in_err-body-clause-parses : goal.branches::case_statement-returns-in_err-body-clause-parses
branches::case_statement-returns-in_err-body-clause-parses t c = let p = err_from_is_err_and c.from_residual-in_err-body.result c.from_residual-in_err-body.ensures.1 in rw (p.1, p.2) (stopped (map shown c.args.words.now) (λ n h. last_refused h (labelled (map shown c.args.words.now) c.args.at variant.Case (case_colon (map shown c.args.words.now) (case_start (map shown c.args.words.now) c.args.names.now c.args.at c.args.behind) c.in_ok-value.ensures) c.in_ok-last.ensures)) _ c.in_err-body.ensures.parses)

pub branches::case_statement-returns-clause-parses : goal.branches::case_statement-returns-clause-parses
branches::case_statement-returns-clause-parses t c = rw c.in_ok-tree.ensures (last c.in_ok-body.ensures.parses (labelled (map shown c.args.words.now) c.args.at variant.Case (case_colon (map shown c.args.words.now) (case_start (map shown c.args.words.now) c.args.names.now c.args.at c.args.behind) c.in_ok-value.ensures) c.in_ok-last.ensures))

pub branches::default_statement-returns-in_err-last-clause-parses : goal.branches::default_statement-returns-in_err-last-clause-parses
branches::default_statement-returns-in_err-last-clause-parses t c = let p = err_from_is_err_and c.from_residual.result c.from_residual.ensures.1 in rw (p.1, p.2, c.in_err-last.ensures.0) (misses_colon (map shown c.args.words.now) c.args.at variant.Default (default_start (map shown c.args.words.now) c.args.names.now c.args.at c.args.behind) c.in_err-last.ensures.1)

pub branches::default_statement-returns-in_err-body-clause-parses : goal.branches::default_statement-returns-in_err-body-clause-parses
branches::default_statement-returns-in_err-body-clause-parses t c = let p = err_from_is_err_and c.from_residual-in_err-body.result c.from_residual-in_err-body.ensures.1 in rw (p.1, p.2) (stopped (map shown c.args.words.now) (λ n h. last_refused h (labelled (map shown c.args.words.now) c.args.at variant.Default (default_start (map shown c.args.words.now) c.args.names.now c.args.at c.args.behind) c.in_ok-last.ensures)) _ c.in_err-body.ensures.parses)

pub branches::default_statement-returns-clause-parses : goal.branches::default_statement-returns-clause-parses
branches::default_statement-returns-clause-parses t c = rw c.in_ok-tree.ensures (last c.in_ok-body.ensures.parses (labelled (map shown c.args.words.now) c.args.at variant.Default (default_start (map shown c.args.words.now) c.args.names.now c.args.at c.args.behind) c.in_ok-last.ensures))

pub branches::if_statement-returns-in_err-value-clause-parses : goal.branches::if_statement-returns-in_err-value-clause-parses
branches::if_statement-returns-in_err-value-clause-parses t c = let p = err_from_is_err_and c.from_residual.result c.from_residual.ensures.1 in rw (p.1, p.2) (stopped (map shown c.args.words.now) (λ n h. refuses_if (map shown c.args.words.now) (if_start (map shown c.args.words.now) c.args.names.now c.args.at c.args.behind) h) _ c.in_err-value.ensures)

pub branches::if_statement-returns-in_err-body-clause-parses : goal.branches::if_statement-returns-in_err-body-clause-parses
branches::if_statement-returns-in_err-body-clause-parses t c = let p = err_from_is_err_and c.from_residual-in_err-body.result c.from_residual-in_err-body.ensures.1 in rw (p.1, p.2) (stopped (map shown c.args.words.now) (λ n h. refuses_body (map shown c.args.words.now) (if_body (map shown c.args.words.now) (if_start (map shown c.args.words.now) c.args.names.now c.args.at c.args.behind) c.in_ok-value.ensures) h) _ c.in_err-body.ensures.parses)

pub branches::if_statement-returns-in_err-other-in-Some-clause-parses : goal.branches::if_statement-returns-in_err-other-in-Some-clause-parses
branches::if_statement-returns-in_err-other-in-Some-clause-parses t c = let p = err_from_is_err_and c.from_residual-in_err-other-in-Some.result c.from_residual-in_err-other-in-Some.ensures.1 in rw (p.1, p.2) (stopped (map shown c.args.words.now) (λ n h. last_refused h (if_other (map shown c.args.words.now) c.in_ok-body.ensures.known c.in_ok-body.ensures.behind c.in-Some.ensures (if_else (map shown c.args.words.now) (if_body (map shown c.args.words.now) (if_start (map shown c.args.words.now) c.args.names.now c.args.at c.args.behind) c.in_ok-value.ensures) c.in_ok-body.ensures.parses))) _ c.in_err-other-in-Some.ensures.parses)

pub branches::if_statement-returns-in_ok-tree-in-None-clause-parses : goal.branches::if_statement-returns-in_ok-tree-in-None-clause-parses
branches::if_statement-returns-in_ok-tree-in-None-clause-parses t c = rw c.in_ok-tree-in-None.ensures (reads_alone (map shown c.args.words.now) c.in-None.ensures (if_else (map shown c.args.words.now) (if_body (map shown c.args.words.now) (if_start (map shown c.args.words.now) c.args.names.now c.args.at c.args.behind) c.in_ok-value.ensures) c.in_ok-body.ensures.parses))

pub branches::if_statement-returns-in_ok-tree-in-Some-clause-parses : goal.branches::if_statement-returns-in_ok-tree-in-Some-clause-parses
branches::if_statement-returns-in_ok-tree-in-Some-clause-parses t c = rw c.in_ok-tree-in-Some.ensures (last c.in_ok-other-in-Some.ensures.parses (if_other (map shown c.args.words.now) c.in_ok-body.ensures.known c.in_ok-body.ensures.behind c.in-Some.ensures (if_else (map shown c.args.words.now) (if_body (map shown c.args.words.now) (if_start (map shown c.args.words.now) c.args.names.now c.args.at c.args.behind) c.in_ok-value.ensures) c.in_ok-body.ensures.parses)))

pub branches::switch_statement-returns-in_err-value-clause-parses : goal.branches::switch_statement-returns-in_err-value-clause-parses
branches::switch_statement-returns-in_err-value-clause-parses t c = let p = err_from_is_err_and c.from_residual.result c.from_residual.ensures.1 in rw (p.1, p.2) (stopped (map shown c.args.words.now) (λ n h. refuses_head (map shown c.args.words.now) c.args.at variant.Switch (some_block c.args.names.now) (switch_start (map shown c.args.words.now) c.args.names.now c.args.at c.args.behind) h) _ c.in_err-value.ensures)

pub branches::switch_statement-returns-in_err-body-clause-parses : goal.branches::switch_statement-returns-in_err-body-clause-parses
branches::switch_statement-returns-in_err-body-clause-parses t c = let p = err_from_is_err_and c.from_residual-in_err-body.result c.from_residual-in_err-body.ensures.1 in rw (p.1, p.2) (stopped (map shown c.args.words.now) (λ n h. last_refused h (anything (head_body (map shown c.args.words.now) c.args.at variant.Switch (switch_start (map shown c.args.words.now) c.args.names.now c.args.at c.args.behind) c.in_ok-value.ensures))) _ c.in_err-body.ensures.parses)

pub branches::switch_statement-returns-clause-parses : goal.branches::switch_statement-returns-clause-parses
branches::switch_statement-returns-clause-parses t c = rw c.switch.ensures (last c.in_ok-body.ensures.parses (anything (head_body (map shown c.args.words.now) c.args.at variant.Switch (switch_start (map shown c.args.words.now) c.args.names.now c.args.at c.args.behind) c.in_ok-value.ensures)))

pub statements::block_statement-returns-in_err-body-clause-parses : goal.statements::block_statement-returns-in_err-body-clause-parses
statements::block_statement-returns-in_err-body-clause-parses t c = let p = err_from_is_err_and c.from_residual.result c.from_residual.ensures.1 in rw (p.1, p.2) (stopped (map shown c.args.words.now) (λ n h. last_refused h (block_part (map shown c.args.words.now) c.args.names.now c.args.at c.args.at)) _ c.in_err-body.ensures.parses)

pub statements::block_statement-returns-clause-parses : goal.statements::block_statement-returns-clause-parses
statements::block_statement-returns-clause-parses t c = rw c.block_statement.ensures (last c.in_ok-body.ensures.parses (block_part (map shown c.args.words.now) c.args.names.now c.args.at c.args.at))

pub statements::statement-returns-in-Some-clause-parses : goal.statements::statement-returns-in-Some-clause-parses
statements::statement-returns-in-Some-clause-parses t c = handed statement_tree (map shown c.args.words.now) (by_keyword (map shown c.args.words.now) c.args.names.now c.in-Some.start c.in-Some.ensures) c.started.result c.started.ensures.parses

pub statements::statement-returns-in-Some-after_mark-clause-parses : goal.statements::statement-returns-in-Some-after_mark-clause-parses
statements::statement-returns-in-Some-after_mark-clause-parses t c = handed statement_tree (map shown c.args.words.now) (by_brace (map shown c.args.words.now) c.args.names.now c.in-Some-after_mark.ensures) c.block_statement.result c.block_statement.ensures.parses

pub statements::statement-returns-in-None-clause-parses : goal.statements::statement-returns-in-None-clause-parses
statements::statement-returns-in-None-clause-parses t c = handed statement_tree (map shown c.args.words.now) (by_expression (map shown c.args.words.now) c.args.names.now c.in_default.ensures c.in-None.ensures) c.expression_statement.result c.expression_statement.ensures.parses

pub loops::do_statement-returns-in_err-body-clause-parses : goal.loops::do_statement-returns-in_err-body-clause-parses
loops::do_statement-returns-in_err-body-clause-parses t c = let p = err_from_is_err_and c.from_residual.result c.from_residual.ensures.1 in rw (p.1, p.2) (stopped (map shown c.args.words.now) (λ n h. refuses_do (map shown c.args.words.now) (do_start (map shown c.args.words.now) c.args.names.now c.args.at c.args.behind) h) _ c.in_err-body.ensures.parses)

pub loops::do_statement-returns-in_err-last-clause-parses : goal.loops::do_statement-returns-in_err-last-clause-parses
loops::do_statement-returns-in_err-last-clause-parses t c = let p = err_from_is_err_and c.from_residual-in_err-last.result c.from_residual-in_err-last.ensures.1 in rw (p.1, p.2, c.in_err-last.ensures.0) (misses_while (map shown c.args.words.now) (do_while (map shown c.args.words.now) (do_start (map shown c.args.words.now) c.args.names.now c.args.at c.args.behind) c.in_ok-body.ensures.parses) c.in_err-last.ensures.1)

pub loops::do_statement-returns-in_err-value-clause-parses : goal.loops::do_statement-returns-in_err-value-clause-parses
loops::do_statement-returns-in_err-value-clause-parses t c = let p = err_from_is_err_and c.from_residual-in_err-value.result c.from_residual-in_err-value.ensures.1 in rw (p.1, p.2) (stopped (map shown c.args.words.now) (λ n h. refuses_last (map shown c.args.words.now) (do_condition (map shown c.args.words.now) c.in_ok-body.ensures.known (do_while (map shown c.args.words.now) (do_start (map shown c.args.words.now) c.args.names.now c.args.at c.args.behind) c.in_ok-body.ensures.parses) c.in_ok-last.ensures) h) _ c.in_err-value.ensures)

pub loops::do_statement-returns-in_err-end-clause-parses : goal.loops::do_statement-returns-in_err-end-clause-parses
loops::do_statement-returns-in_err-end-clause-parses t c = let p = err_from_is_err_and c.from_residual-in_err-end.result c.from_residual-in_err-end.ensures.1 in rw (p.1, p.2, c.in_err-end.ensures.0) (misses_closing (do_end (map shown c.args.words.now) (do_condition (map shown c.args.words.now) c.in_ok-body.ensures.known (do_while (map shown c.args.words.now) (do_start (map shown c.args.words.now) c.args.names.now c.args.at c.args.behind) c.in_ok-body.ensures.parses) c.in_ok-last.ensures) c.in_ok-value.ensures) c.in_err-end.ensures.1)

pub loops::do_statement-returns-clause-parses : goal.loops::do_statement-returns-clause-parses
loops::do_statement-returns-clause-parses t c = rw c.in_ok-tree.ensures (reads_closing (do_end (map shown c.args.words.now) (do_condition (map shown c.args.words.now) c.in_ok-body.ensures.known (do_while (map shown c.args.words.now) (do_start (map shown c.args.words.now) c.args.names.now c.args.at c.args.behind) c.in_ok-body.ensures.parses) c.in_ok-last.ensures) c.in_ok-value.ensures) c.in_ok-end.ensures)

pub loops::for_statement-returns-in_err-inside-clause-parses : goal.loops::for_statement-returns-in_err-inside-clause-parses
loops::for_statement-returns-in_err-inside-clause-parses t c = let p = err_from_is_err_and c.from_residual.result c.from_residual.ensures.1 in rw (p.1, p.2, c.in_err-inside.ensures.0) (misses_paren (map shown c.args.words.now) c.args.names.now c.args.at c.in_err-inside.ensures.1)

pub loops::for_statement-returns-in_err-init-clause-parses : goal.loops::for_statement-returns-in_err-init-clause-parses
loops::for_statement-returns-in_err-init-clause-parses t c = let p = err_from_is_err_and c.from_residual-in_err-init.result c.from_residual-in_err-init.ensures.1 in rw (p.1, p.2) (stopped (map shown c.args.words.now) (λ n h. refuses_init (map shown c.args.words.now) (for_start (map shown c.args.words.now) c.args.names.now c.args.at c.in_ok-inside.ensures) h) _ c.in_err-init.ensures.parses)

pub loops::for_statement-returns-in_err-value-clause-parses : goal.loops::for_statement-returns-in_err-value-clause-parses
loops::for_statement-returns-in_err-value-clause-parses t c = let p = err_from_is_err_and c.from_residual-in_err-value.result c.from_residual-in_err-value.ensures.1 in rw (p.1, p.2) (stopped (map shown c.args.words.now) (λ n h. refuses_test (map shown c.args.words.now) (for_test (map shown c.args.words.now) c.in_ok-init.ensures.known (for_start (map shown c.args.words.now) c.args.names.now c.args.at c.in_ok-inside.ensures) c.in_ok-init.ensures.parses) h) _ c.in_err-value.ensures)

pub loops::for_statement-returns-in_err-step-clause-parses : goal.loops::for_statement-returns-in_err-step-clause-parses
loops::for_statement-returns-in_err-step-clause-parses t c = let p = err_from_is_err_and c.from_residual-in_err-step.result c.from_residual-in_err-step.ensures.1 in rw (p.1, p.2) (stopped (map shown c.args.words.now) (λ n h. refuses_step (map shown c.args.words.now) (for_step (map shown c.args.words.now) (for_test (map shown c.args.words.now) c.in_ok-init.ensures.known (for_start (map shown c.args.words.now) c.args.names.now c.args.at c.in_ok-inside.ensures) c.in_ok-init.ensures.parses) c.in_ok-value.ensures) h) _ c.in_err-step.ensures)

pub loops::for_statement-returns-in_err-body-clause-parses : goal.loops::for_statement-returns-in_err-body-clause-parses
loops::for_statement-returns-in_err-body-clause-parses t c = let p = err_from_is_err_and c.from_residual-in_err-body.result c.from_residual-in_err-body.ensures.1 in rw (p.1, p.2) (stopped (map shown c.args.words.now) (λ n h. last_refused h (for_body (map shown c.args.words.now) (for_step (map shown c.args.words.now) (for_test (map shown c.args.words.now) c.in_ok-init.ensures.known (for_start (map shown c.args.words.now) c.args.names.now c.args.at c.in_ok-inside.ensures) c.in_ok-init.ensures.parses) c.in_ok-value.ensures) c.in_ok-step.ensures)) _ c.in_err-body.ensures.parses)

pub loops::for_statement-returns-clause-parses : goal.loops::for_statement-returns-clause-parses
loops::for_statement-returns-clause-parses t c = rw c.in_ok-tree.ensures (last c.in_ok-body.ensures.parses (for_body (map shown c.args.words.now) (for_step (map shown c.args.words.now) (for_test (map shown c.args.words.now) c.in_ok-init.ensures.known (for_start (map shown c.args.words.now) c.args.names.now c.args.at c.in_ok-inside.ensures) c.in_ok-init.ensures.parses) c.in_ok-value.ensures) c.in_ok-step.ensures))

pub loops::while_statement-returns-in_err-value-clause-parses : goal.loops::while_statement-returns-in_err-value-clause-parses
loops::while_statement-returns-in_err-value-clause-parses t c = let p = err_from_is_err_and c.from_residual.result c.from_residual.ensures.1 in rw (p.1, p.2) (stopped (map shown c.args.words.now) (λ n h. refuses_head (map shown c.args.words.now) c.args.at variant.While (some_statement c.args.names.now) (while_start (map shown c.args.words.now) c.args.names.now c.args.at c.args.behind) h) _ c.in_err-value.ensures)

pub loops::while_statement-returns-in_err-body-clause-parses : goal.loops::while_statement-returns-in_err-body-clause-parses
loops::while_statement-returns-in_err-body-clause-parses t c = let p = err_from_is_err_and c.from_residual-in_err-body.result c.from_residual-in_err-body.ensures.1 in rw (p.1, p.2) (stopped (map shown c.args.words.now) (λ n h. last_refused h (head_body (map shown c.args.words.now) c.args.at variant.While (while_start (map shown c.args.words.now) c.args.names.now c.args.at c.args.behind) c.in_ok-value.ensures)) _ c.in_err-body.ensures.parses)

pub loops::while_statement-returns-clause-parses : goal.loops::while_statement-returns-clause-parses
loops::while_statement-returns-clause-parses t c = rw c.in_ok-tree.ensures (last c.in_ok-body.ensures.parses (head_body (map shown c.args.words.now) c.args.at variant.While (while_start (map shown c.args.words.now) c.args.names.now c.args.at c.args.behind) c.in_ok-value.ensures))
