use Rattle.im_parse_expression.proofs.ArgumentLines.{arguments_more, arguments_next, arguments_start, misses_close, reads_arguments, reads_none, refuses_argument, with_item}
use Rattle.im_parse_expression.proofs.AssignLines.{reads_left, refuses_left, refuses_loose, right}
use Rattle.im_parse_expression.proofs.BinaryLines.{after_operator, as_cast, refuses_looser, refuses_operand, tails_done, tails_from, tails_more}
use Rattle.im_parse_expression.proofs.CastLines.{InCasts, casts_done, casts_more, casts_refused}
use Rattle.im_parse_expression.proofs.Exits.{handed, isnt, itis, stopped}
use Rattle.im_parse_expression.proofs.ExpressionLines.{alternative, chosen_start, commas_done, commas_more, commas_next, commas_start, misses_colon, reads_choice, reads_condition, refuses_chosen, refuses_comma, refuses_condition, refuses_expression, refuses_other}
use Rattle.im_parse_expression.proofs.PostfixLines.{after_primary, postfix_goes, postfix_more, arrow_start, bracket, call_start, called, dot_start, group_start, index_start, misses_bracket, misses_name, misses_paren, named, post_stepped, postfix_done, reads_group, refuses_call, refuses_group, refuses_index, refuses_primary}
use Rattle.im_parse_expression.proofs.UnaryLines.{as_postfix, prefix_start, reads_made, reads_sized, refuses_made, refuses_sized, sized_other, sized_start, sized_untyped, sizeof_start, step_start}
use Rattle.im_parse_expression.specs.Parsing.{Below, tree_of}
use Rattle.im_parse_core.proofs.Steps.{last, last_refused, word}
use Rattle.im_word.specs.Shown.{shown}
use Rattle.std.proofs.Common.{[], arith}
use Rattle.std.proofs.lemmas.Result.{err_from_is_err_and}
use Rattle.std.specs.Prelude.{map}
use Rattle.std.proofs.Common.{◌≡◌, ◌+◌, drop, refl, sym, ap, subst, ◌∙◌, Ok, Err}
use Rattle.im_ctree.specs.Grammar as g
use Rattle.im_parse_core.specs.Places.{ReadsAt}
use Rattle.im_ctree.specs.Shape.{declarator_of}
use Rattle.im_parse_expression.specs.Declaring.{specifier_tree, member_tree, enumerator_tree, suffix_tree, parameter_tree}
use Rattle.im_parse_expression.proofs.Exits.{shorter}
use Rattle.im_parse_expression.proofs.NextWord.{isnt_so}
use Rattle.im_parse_expression.proofs.SpecifierLines.{specifiers_start, refuses_specifier, specifiers_next, specifiers_go, specifiers_item, specifier_advances, typed_next, typed_stop, specifiers_done, specifiers_stop, struct_start, enum_start}
use Rattle.im_parse_expression.proofs.TagLines.{no_braced, untagged_start, refuses_list, reads_list, tag_start, reads_tag, tagged_start}
use Rattle.im_parse_expression.proofs.MemberLines.{members_start, members_more, refuses_member, members_next, members_item, member_advances, reads_members, member_start, after_specifiers, refuses_its_specifiers, declarators_start, refuses_declarator, declarators_next, declarators_more, misses_semicolon, reads_declarators, declarators_item}
use Rattle.im_parse_expression.proofs.MemberLines as ml
use Rattle.im_parse_expression.proofs.EnumeratorLines.{enumerators_start, enumerators_comma, enumerators_more, refuses_enumerator, enumerators_next, enumerators_item, reads_trailing, reads_enumerators, enumerator_named, no_enumerator, reads_unvalued, value_start}
use Rattle.im_parse_expression.proofs.EnumeratorLines as el
use Rattle.im_parse_expression.proofs.ParameterLines.{parameters_start, refuses_parameter, parameters_next, parameters_more, reads_parameters, parameters_item, parameter_start, parameter_declared, refuses_parameter_specifiers, type_start, type_declared, refuses_type_specifiers, refuses_type_declarator, misses_type_end, reads_type}
use Rattle.im_parse_expression.proofs.ParameterLines as pl
use Rattle.im_parse_expression.proofs.SuffixLines.{suffixes_start, suffixes_more, refuses_suffix, suffixes_next, suffixes_item, suffix_advances, suffixes_done, function_start, array_start, no_suffix_here, refuses_parameters, reads_function, reads_unsized, refuses_length, misses_length_end, reads_sized_array}
use Rattle.im_parse_expression.proofs.SuffixLines as sl
use Rattle.im_parse_expression.proofs.DeclaratorLines.{declarator_ahead, reads_no_declarator, after_stars, refuses_stars, core_stops, is_name, is_inner, is_nothing, named_core, inner_core, refuses_inner, misses_inner_end, inner_suffixes, nameless_core}
use Rattle.im_ctree.specs.Tree as tree
use Rattle.im_parse_expression.proofs.+expression.Goals as goal

pub expressions::expression-returns-in_err-tree : goal.expressions::expression-returns-in_err-tree
expressions::expression-returns-in_err-tree t c = let p = err_from_is_err_and c.from_residual.result c.from_residual.ensures.1 in rw (p.1, p.2) (stopped (map shown c.args.words.now) (λ n h. refuses_expression (map shown c.args.words.now) h) _ c.in_err-tree.ensures)

pub expressions::expression-loop-behind-init : goal.expressions::expression-loop-behind-init
expressions::expression-loop-behind-init t c = (commas_start (map shown c.args.words.now) c.in_ok-tree.ensures, omega (arith, c.in_ok-tree.ensures.place))

pub expressions::expression-returns-in_err-right : goal.expressions::expression-returns-in_err-right
expressions::expression-returns-in_err-right t c = let p = err_from_is_err_and c.from_residual-in_err-right.result c.from_residual-in_err-right.ensures.1 in rw (p.1, p.2) (stopped (map shown c.args.words.now) (λ n h. refuses_comma (map shown c.args.words.now) (commas_more (map shown c.args.words.now) c.in-Some.ensures c.loop-behind.invariant.0) h) _ c.in_err-right.ensures)

pub expressions::expression-loop-behind-preserved : goal.expressions::expression-loop-behind-preserved
expressions::expression-loop-behind-preserved t c = (rw c.in_ok-tree-2.ensures (commas_next (map shown c.args.words.now) (commas_more (map shown c.args.words.now) c.in-Some.ensures c.loop-behind.invariant.0) c.in_ok-right.ensures), omega (arith, c.in-Some.ensures, c.in_ok-right.ensures.place))

pub expressions::expression-loop-behind-smaller : goal.expressions::expression-loop-behind-smaller
expressions::expression-loop-behind-smaller t c = omega (arith, c.in-Some.ensures, c.in_ok-right.ensures.place)

pub expressions::expression-returns : goal.expressions::expression-returns
expressions::expression-returns t c = commas_done (map shown c.args.words.now) c.in_default.ensures c.loop-behind.invariant.0

pub expressions::assignment-returns-in_err-left : goal.expressions::assignment-returns-in_err-left
expressions::assignment-returns-in_err-left t c = let p = err_from_is_err_and c.from_residual.result c.from_residual.ensures.1 in rw (p.1, p.2) (stopped (map shown c.args.words.now) (λ n h. refuses_left (map shown c.args.words.now) h) _ c.in_err-left.ensures)

pub expressions::assignment-returns-in-None : goal.expressions::assignment-returns-in-None
expressions::assignment-returns-in-None t c = reads_left (map shown c.args.words.now) c.in-None.ensures c.in_ok-left.ensures

pub expressions::assignment-returns-then-not-is_unary : goal.expressions::assignment-returns-then-not-is_unary
expressions::assignment-returns-then-not-is_unary t c = refuses_loose (map shown c.args.words.now) c.in-Some.ensures (isnt c.is_unary.result c.if-not-is_unary.true c.is_unary.ensures) c.in_ok-left.ensures

pub expressions::assignment-returns-in_err-right-in-Some : goal.expressions::assignment-returns-in_err-right-in-Some
expressions::assignment-returns-in_err-right-in-Some t c = let p = err_from_is_err_and c.from_residual-in_err-right-in-Some.result c.from_residual-in_err-right-in-Some.ensures.1 in rw (p.1, p.2) (stopped (map shown c.args.words.now) (λ n h. last_refused h (right (map shown c.args.words.now) c.in-Some.ensures (itis c.is_unary.result c.if-not-is_unary.false c.is_unary.ensures) c.in_ok-left.ensures)) _ c.in_err-right-in-Some.ensures)

pub expressions::assignment-returns-in_ok-tree-in-Some : goal.expressions::assignment-returns-in_ok-tree-in-Some
expressions::assignment-returns-in_ok-tree-in-Some t c = rw c.in_ok-tree-in-Some.ensures (last c.in_ok-right-in-Some.ensures (right (map shown c.args.words.now) c.in-Some.ensures (itis c.is_unary.result c.if-not-is_unary.false c.is_unary.ensures) c.in_ok-left.ensures))

pub expressions::conditional-returns-in_err-condition : goal.expressions::conditional-returns-in_err-condition
expressions::conditional-returns-in_err-condition t c = let p = err_from_is_err_and c.from_residual.result c.from_residual.ensures.1 in rw (p.1, p.2) (stopped (map shown c.args.words.now) (λ n h. refuses_condition (map shown c.args.words.now) h) _ c.in_err-condition.ensures)

pub expressions::conditional-returns-in-None : goal.expressions::conditional-returns-in-None
expressions::conditional-returns-in-None t c = reads_condition (map shown c.args.words.now) c.in-None.ensures c.in_ok-condition.ensures

pub expressions::conditional-returns-in_err-chosen-in-Some : goal.expressions::conditional-returns-in_err-chosen-in-Some
expressions::conditional-returns-in_err-chosen-in-Some t c = let p = err_from_is_err_and c.from_residual-in_err-chosen-in-Some.result c.from_residual-in_err-chosen-in-Some.ensures.1 in rw (p.1, p.2) (stopped (map shown c.args.words.now) (λ n h. refuses_chosen (map shown c.args.words.now) (chosen_start (map shown c.args.words.now) c.in-Some.ensures c.in_ok-condition.ensures) h) _ c.in_err-chosen-in-Some.ensures)

pub expressions::conditional-returns-in_err-last-in-Some : goal.expressions::conditional-returns-in_err-last-in-Some
expressions::conditional-returns-in_err-last-in-Some t c = let p = err_from_is_err_and c.from_residual-in_err-last-in-Some.result c.from_residual-in_err-last-in-Some.ensures.1 in rw (p.1, p.2, c.in_err-last-in-Some.ensures.0) (misses_colon (map shown c.args.words.now) (alternative (map shown c.args.words.now) (chosen_start (map shown c.args.words.now) c.in-Some.ensures c.in_ok-condition.ensures) c.in_ok-chosen-in-Some.ensures) c.in_err-last-in-Some.ensures.1)

pub expressions::conditional-returns-in_err-other-in-Some : goal.expressions::conditional-returns-in_err-other-in-Some
expressions::conditional-returns-in_err-other-in-Some t c = let p = err_from_is_err_and c.from_residual-in_err-other-in-Some.result c.from_residual-in_err-other-in-Some.ensures.1 in rw (p.1, p.2) (stopped (map shown c.args.words.now) (λ n h. refuses_other (map shown c.args.words.now) (alternative (map shown c.args.words.now) (chosen_start (map shown c.args.words.now) c.in-Some.ensures c.in_ok-condition.ensures) c.in_ok-chosen-in-Some.ensures) c.in_ok-last-in-Some.ensures h) _ c.in_err-other-in-Some.ensures)

pub expressions::conditional-returns-in_ok-tree-in-Some : goal.expressions::conditional-returns-in_ok-tree-in-Some
expressions::conditional-returns-in_ok-tree-in-Some t c = rw c.in_ok-tree-in-Some.ensures (reads_choice (map shown c.args.words.now) (alternative (map shown c.args.words.now) (chosen_start (map shown c.args.words.now) c.in-Some.ensures c.in_ok-condition.ensures) c.in_ok-chosen-in-Some.ensures) c.in_ok-last-in-Some.ensures c.in_ok-other-in-Some.ensures)

pub expressions::binary-returns-in_err-tree : goal.expressions::binary-returns-in_err-tree
expressions::binary-returns-in_err-tree t c =
    let p = err_from_is_err_and c.from_residual.result c.from_residual.ensures.1 in
    rw (p.1, p.2) (stopped (map shown c.args.words.now) (λ n h. refuses_looser (map shown c.args.words.now) c.args.level 10 (omega (arith, c.requires.level)) (omega arith) h) _ (as_cast tree_of (c.args.names.now) (map shown c.args.words.now) c.args.at 10 refl (Err _) c.in_err-tree.ensures))

pub expressions::binary-loop-tightest-init : goal.expressions::binary-loop-tightest-init
expressions::binary-loop-tightest-init t c = (as_cast tree_of (c.args.names.now) (map shown c.args.words.now) c.args.at 10 refl (Ok (c.in_ok-tree.tree, c.in_ok-tree.next)) c.in_ok-tree.ensures, omega (arith, c.in_ok-tree.ensures.place), omega (arith, c.requires.level), omega arith)

pub expressions::binary-loop-operator-init : goal.expressions::binary-loop-operator-init
expressions::binary-loop-operator-init t c = (tails_from (map shown c.args.words.now) c.loop-tightest.tightest (omega (arith, c.loop-tightest-test.true)) c.loop-tightest.invariant.3 c.loop-tightest.invariant.0, c.loop-tightest.invariant.1, omega (arith, c.loop-tightest-test.true), omega (arith, c.loop-tightest.invariant.3))

pub expressions::binary-returns-in_err-right : goal.expressions::binary-returns-in_err-right
expressions::binary-returns-in_err-right t c =
    let p = err_from_is_err_and c.from_residual-in_err-right.result c.from_residual-in_err-right.ensures.1 in
    rw (p.1, p.2) (stopped (map shown c.args.words.now) (λ n h. refuses_looser (map shown c.args.words.now) c.args.level _ c.loop-operator.invariant.2 (omega (arith, c.loop-operator.invariant.3)) (refuses_operand (map shown c.args.words.now) (after_operator (map shown c.args.words.now) c.in-Some.ensures c.loop-operator.invariant.0) h)) _ c.in_err-right.ensures)

pub expressions::binary-loop-operator-preserved : goal.expressions::binary-loop-operator-preserved
expressions::binary-loop-operator-preserved t c = (rw c.in_ok-tree-2.ensures (tails_more (map shown c.args.words.now) (after_operator (map shown c.args.words.now) c.in-Some.ensures c.loop-operator.invariant.0) c.in_ok-right.ensures), omega (arith, c.loop-operator.invariant.1, c.in-Some.ensures.at, c.in_ok-right.ensures.place), c.loop-operator.invariant.2, c.loop-operator.invariant.3)

pub expressions::binary-loop-operator-smaller : goal.expressions::binary-loop-operator-smaller
expressions::binary-loop-operator-smaller t c = omega (arith, c.in-Some.ensures.at, c.in_ok-right.ensures.place)

pub expressions::binary-loop-tightest-preserved : goal.expressions::binary-loop-tightest-preserved
expressions::binary-loop-tightest-preserved t c = (tails_done (map shown c.args.words.now) c.in_default.ensures c.loop-operator.invariant.0, c.loop-operator.invariant.1, c.loop-operator.invariant.2, omega (arith, c.loop-operator.invariant.3))

pub expressions::binary-returns : goal.expressions::binary-returns
expressions::binary-returns t c =
    let same : c.loop-tightest.tightest ≡ c.args.level = omega (arith, c.loop-tightest-test.false, c.loop-tightest.invariant.2) in
    subst (λ z. ReadsAt (g.IsBinary (c.args.names.now) z) (Below (z + 4)) (map shown c.args.words.now) c.args.at (tree_of c.loop-tightest.tree) c.loop-tightest.next) same c.loop-tightest.invariant.0

pub expressions::cast_types-returns-in_err-name : goal.expressions::cast_types-returns-in_err-name
expressions::cast_types-returns-in_err-name t c =
    let p = err_from_is_err_and c.from_residual.result c.from_residual.ensures.1 in
    let words = map shown c.args.words.now in
    rw (p.1, p.2) (stopped words (λ n h. casts_refused (c.args.names.now) words c.args.at c.loop-inside.next c.in-Some.inside n c.loop-inside.types.items c.loop-inside.invariant c.in-Some.ensures h) _ c.in_err-name.ensures)

pub expressions::cast_types-loop-inside-preserved :
    goal.expressions::cast_types-loop-inside-preserved
expressions::cast_types-loop-inside-preserved t c =
    let words = map shown c.args.words.now in
    let more = casts_more (c.args.names.now) words c.args.at c.loop-inside.next c.in-Some.inside c.in_ok-name.behind c.loop-inside.types.items (record { at = c.loop-inside.next; name = c.in_ok-name.name }) refl c.loop-inside.invariant c.in-Some.ensures c.in_ok-name.ensures in
    subst (λ z. InCasts (c.args.names.now) words c.args.at z c.in_ok-name.behind) (sym c.in_ok-push.ensures.items) more

pub expressions::cast_types-returns : goal.expressions::cast_types-returns
expressions::cast_types-returns t c =
    casts_done (c.args.names.now) (map shown c.args.words.now) c.args.at c.loop-inside.next c.loop-inside.types.items c.loop-inside.invariant c.in_default.ensures

pub expressions::unary-returns-in_err-operand : goal.expressions::unary-returns-in_err-operand
expressions::unary-returns-in_err-operand t c = let p = err_from_is_err_and c.from_residual.result c.from_residual.ensures.1 in rw (p.1, p.2) (stopped (map shown c.args.words.now) (λ n h. last_refused h (step_start (map shown c.args.words.now) c.in-Some.ensures)) _ c.in_err-operand.ensures)

pub expressions::unary-returns-in-Some : goal.expressions::unary-returns-in-Some
expressions::unary-returns-in-Some t c = rw c.in_ok-tree.ensures (last c.in_ok-operand.ensures (step_start (map shown c.args.words.now) c.in-Some.ensures))

pub expressions::unary-returns-in_err-operand-2 : goal.expressions::unary-returns-in_err-operand-2
expressions::unary-returns-in_err-operand-2 t c = let p = err_from_is_err_and c.from_residual-in_err-operand-2.result c.from_residual-in_err-operand-2.ensures.1 in rw (p.1, p.2) (stopped (map shown c.args.words.now) (λ n h. last_refused h (prefix_start (map shown c.args.words.now) c.in-Some-prefix_at.ensures)) _ c.in_err-operand-2.ensures)

pub expressions::unary-returns-in-Some-prefix_at : goal.expressions::unary-returns-in-Some-prefix_at
expressions::unary-returns-in-Some-prefix_at t c = rw c.in_ok-tree-2.ensures (last c.in_ok-operand-2.ensures (prefix_start (map shown c.args.words.now) c.in-Some-prefix_at.ensures))

pub expressions::unary-returns-in-None : goal.expressions::unary-returns-in-None
expressions::unary-returns-in-None t c = as_postfix tree_of (c.args.names.now) (map shown c.args.words.now) c.args.at c.in_default.ensures c.in_default-prefix_at.ensures c.in-None.ensures c.postfix.result c.postfix.ensures

pub expressions::unary-returns-in-Some-after_keyword : goal.expressions::unary-returns-in-Some-after_keyword
expressions::unary-returns-in-Some-after_keyword t c = handed tree_of (map shown c.args.words.now) (sizeof_start (map shown c.args.words.now) c.in-Some-after_keyword.ensures) c.sized.result c.sized.ensures

pub expressions::sized-returns-in-None : goal.expressions::sized-returns-in-None
expressions::sized-returns-in-None t c = sized_other tree_of (c.args.names.now) (map shown c.args.words.now) c.args.behind c.args.at c.in-None.ensures c.sized_operand.result c.sized_operand.ensures

pub expressions::sized-returns-then-not-begins_specifiers : goal.expressions::sized-returns-then-not-begins_specifiers
expressions::sized-returns-then-not-begins_specifiers t c = sized_untyped tree_of (c.args.names.now) (map shown c.args.words.now) c.args.behind c.args.at c.in-Some.ensures (isnt c.begins_specifiers.result c.if-not-begins_specifiers.true c.begins_specifiers.ensures) c.sized_operand-then-not-begins_specifiers.result c.sized_operand-then-not-begins_specifiers.ensures

pub expressions::sized-returns-in_err-name-in-Some : goal.expressions::sized-returns-in_err-name-in-Some
expressions::sized-returns-in_err-name-in-Some t c = let p = err_from_is_err_and c.from_residual.result c.from_residual.ensures.1 in rw (p.1, p.2) (stopped (map shown c.args.words.now) (λ n h. refuses_sized (map shown c.args.words.now) (sized_start (map shown c.args.words.now) c.in-Some.ensures (itis c.begins_specifiers.result c.if-not-begins_specifiers.false c.begins_specifiers.ensures)) h) _ c.in_err-name-in-Some.ensures)

pub expressions::sized-returns-in_ok-tree-in-Some : goal.expressions::sized-returns-in_ok-tree-in-Some
expressions::sized-returns-in_ok-tree-in-Some t c = rw c.in_ok-tree-in-Some.ensures (reads_sized (map shown c.args.words.now) (sized_start (map shown c.args.words.now) c.in-Some.ensures (itis c.begins_specifiers.result c.if-not-begins_specifiers.false c.begins_specifiers.ensures)) c.in_ok-name-in-Some.ensures)

pub expressions::sized_operand-returns-in_err-operand : goal.expressions::sized_operand-returns-in_err-operand
expressions::sized_operand-returns-in_err-operand t c = let p = err_from_is_err_and c.from_residual.result c.from_residual.ensures.1 in rw (p.1, p.2) (stopped (map shown c.args.words.now) (λ n h. refuses_made (map shown c.args.words.now) h) _ c.in_err-operand.ensures)

pub expressions::sized_operand-returns : goal.expressions::sized_operand-returns
expressions::sized_operand-returns t c = rw c.in_ok-tree.ensures (reads_made (map shown c.args.words.now) c.in_ok-operand.ensures)

pub postfix::postfix-returns-in_err-tree : goal.postfix::postfix-returns-in_err-tree
postfix::postfix-returns-in_err-tree t c = let p = err_from_is_err_and c.from_residual.result c.from_residual.ensures.1 in rw (p.1, p.2) (stopped (map shown c.args.words.now) (λ n h. refuses_primary (map shown c.args.words.now) h) _ c.in_err-tree.ensures)

pub postfix::postfix-returns : goal.postfix::postfix-returns
postfix::postfix-returns t c = handed tree_of (map shown c.args.words.now) (after_primary (map shown c.args.words.now) c.in_ok-tree.ensures) c.postfix_from.result c.postfix_from.ensures

pub postfix::postfix_from-loop-behind-init : goal.postfix::postfix_from-loop-behind-init
postfix::postfix_from-loop-behind-init t c = (postfix_goes (map shown c.args.words.now) c.args.at c.args.behind_first (tree_of c.args.first), omega arith)

pub postfix::postfix_from-returns-in_err-index : goal.postfix::postfix_from-returns-in_err-index
postfix::postfix_from-returns-in_err-index t c = let p = err_from_is_err_and c.from_residual.result c.from_residual.ensures.1 in rw (p.1, p.2) (stopped (map shown c.args.words.now) (λ n h. c.loop-behind.invariant.0.refuses n (drop n (map shown c.args.words.now)) (refuses_index (map shown c.args.words.now) (index_start (map shown c.args.words.now) c.args.at (tree_of c.loop-behind.tree) c.in-Some.ensures) h)) _ c.in_err-index.ensures)

pub postfix::postfix_from-returns-in_err-next : goal.postfix::postfix_from-returns-in_err-next
postfix::postfix_from-returns-in_err-next t c = let p = err_from_is_err_and c.from_residual-in_err-next.result c.from_residual-in_err-next.ensures.1 in rw (p.1, p.2, c.in_err-next.ensures.0) (c.loop-behind.invariant.0.refuses _ _ (misses_bracket (map shown c.args.words.now) (bracket (map shown c.args.words.now) (index_start (map shown c.args.words.now) c.args.at (tree_of c.loop-behind.tree) c.in-Some.ensures) c.in_ok-index.ensures) c.in_err-next.ensures.1))

pub postfix::postfix_from-returns-in_err-arguments : goal.postfix::postfix_from-returns-in_err-arguments
postfix::postfix_from-returns-in_err-arguments t c = let p = err_from_is_err_and c.from_residual-in_err-arguments.result c.from_residual-in_err-arguments.ensures.1 in rw (p.1, p.2) (stopped (map shown c.args.words.now) (λ n h. c.loop-behind.invariant.0.refuses n (drop n (map shown c.args.words.now)) (refuses_call (map shown c.args.words.now) (call_start (map shown c.args.words.now) c.args.at (tree_of c.loop-behind.tree) c.in-Some-after_mark.ensures) h)) _ c.in_err-arguments.ensures)

pub postfix::postfix_from-returns-in_err-name : goal.postfix::postfix_from-returns-in_err-name
postfix::postfix_from-returns-in_err-name t c = let p = err_from_is_err_and c.from_residual-in_err-name.result c.from_residual-in_err-name.ensures.1 in rw (p.1, p.2, c.in_err-name.ensures.0) (c.loop-behind.invariant.0.refuses _ _ (misses_name (map shown c.args.words.now) (tree.member_of c.args.at (tree_of c.loop-behind.tree)) (dot_start (map shown c.args.words.now) (c.args.names.now) c.args.at (tree_of c.loop-behind.tree) c.in-Some-after_mark-2.ensures) c.in_err-name.ensures.1))

pub postfix::postfix_from-returns-in_err-name-2 : goal.postfix::postfix_from-returns-in_err-name-2
postfix::postfix_from-returns-in_err-name-2 t c = let p = err_from_is_err_and c.from_residual-in_err-name-2.result c.from_residual-in_err-name-2.ensures.1 in rw (p.1, p.2, c.in_err-name-2.ensures.0) (c.loop-behind.invariant.0.refuses _ _ (misses_name (map shown c.args.words.now) (tree.arrow_to c.args.at (tree_of c.loop-behind.tree)) (arrow_start (map shown c.args.words.now) (c.args.names.now) c.args.at (tree_of c.loop-behind.tree) c.in-Some-after_mark-3.ensures) c.in_err-name-2.ensures.1))

pub postfix::postfix_from-loop-behind-preserved-in-Some : goal.postfix::postfix_from-loop-behind-preserved-in-Some
postfix::postfix_from-loop-behind-preserved-in-Some t c = (
  rw c.in_ok-tree.ensures (postfix_more (map shown c.args.words.now) c.loop-behind.invariant.0 (word c.in_ok-next.ensures (bracket (map shown c.args.words.now) (index_start (map shown c.args.words.now) c.args.at (tree_of c.loop-behind.tree) c.in-Some.ensures) c.in_ok-index.ensures))),
  omega (arith, c.loop-behind.invariant.1, c.in-Some.ensures.next, c.in_ok-index.ensures.place, c.in_ok-next.ensures.next),
)

pub postfix::postfix_from-loop-behind-preserved-in-Some-after_mark : goal.postfix::postfix_from-loop-behind-preserved-in-Some-after_mark
postfix::postfix_from-loop-behind-preserved-in-Some-after_mark t c = (
  rw c.in_ok-tree-2.ensures (postfix_more (map shown c.args.words.now) c.loop-behind.invariant.0 (called (map shown c.args.words.now) (call_start (map shown c.args.words.now) c.args.at (tree_of c.loop-behind.tree) c.in-Some-after_mark.ensures) c.in_ok-arguments.ensures)),
  omega (arith, c.loop-behind.invariant.1, c.in-Some-after_mark.ensures.next, c.in_ok-arguments.ensures.place),
)

pub postfix::postfix_from-loop-behind-preserved-in-Some-after_mark-2 : goal.postfix::postfix_from-loop-behind-preserved-in-Some-after_mark-2
postfix::postfix_from-loop-behind-preserved-in-Some-after_mark-2 t c = (
  rw c.in_ok-tree-3.ensures (postfix_more (map shown c.args.words.now) c.loop-behind.invariant.0 (named (map shown c.args.words.now) (tree.member_of c.args.at (tree_of c.loop-behind.tree)) (dot_start (map shown c.args.words.now) (c.args.names.now) c.args.at (tree_of c.loop-behind.tree) c.in-Some-after_mark-2.ensures) c.in_ok-name.ensures)),
  omega (arith, c.loop-behind.invariant.1, c.in-Some-after_mark-2.ensures.next, c.in_ok-name.ensures.next),
)

pub postfix::postfix_from-loop-behind-preserved-in-Some-after_mark-3 : goal.postfix::postfix_from-loop-behind-preserved-in-Some-after_mark-3
postfix::postfix_from-loop-behind-preserved-in-Some-after_mark-3 t c = (
  rw c.in_ok-tree-4.ensures (postfix_more (map shown c.args.words.now) c.loop-behind.invariant.0 (named (map shown c.args.words.now) (tree.arrow_to c.args.at (tree_of c.loop-behind.tree)) (arrow_start (map shown c.args.words.now) (c.args.names.now) c.args.at (tree_of c.loop-behind.tree) c.in-Some-after_mark-3.ensures) c.in_ok-name-2.ensures)),
  omega (arith, c.loop-behind.invariant.1, c.in-Some-after_mark-3.ensures.next, c.in_ok-name-2.ensures.next),
)

pub postfix::postfix_from-loop-behind-preserved : goal.postfix::postfix_from-loop-behind-preserved
postfix::postfix_from-loop-behind-preserved t c = (
  rw c.in_ok-tree-5.ensures (postfix_more (map shown c.args.words.now) c.loop-behind.invariant.0 (post_stepped (map shown c.args.words.now) c.args.at (tree_of c.loop-behind.tree) c.in-Some-step_at.ensures)),
  omega (arith, c.loop-behind.invariant.1, c.in-Some-step_at.ensures.at.next),
)

pub postfix::postfix_from-returns-in_default-step_at : goal.postfix::postfix_from-returns-in_default-step_at
postfix::postfix_from-returns-in_default-step_at t c = c.loop-behind.invariant.0.reads _ _ _ (postfix_done (map shown c.args.words.now) c.args.at (tree_of c.loop-behind.tree) (record { bracket = c.in_default.ensures; paren = c.in_default-after_mark.ensures; dot = c.in_default-after_mark-2.ensures; arrow = c.in_default-after_mark-3.ensures; step = c.in_default-step_at.ensures }))

pub postfix::primary-returns-in_err-tree : goal.postfix::primary-returns-in_err-tree
postfix::primary-returns-in_err-tree t c = let p = err_from_is_err_and c.from_residual.result c.from_residual.ensures.1 in rw (p.1, p.2) (stopped (map shown c.args.words.now) (λ n h. refuses_group (map shown c.args.words.now) (group_start (map shown c.args.words.now) c.in-Some.ensures) h) _ c.in_err-tree.ensures)

pub postfix::primary-returns-in_err-end : goal.postfix::primary-returns-in_err-end
postfix::primary-returns-in_err-end t c = let p = err_from_is_err_and c.from_residual-in_err-end.result c.from_residual-in_err-end.ensures.1 in rw (p.1, p.2, c.in_err-end.ensures.0) (misses_paren (map shown c.args.words.now) (group_start (map shown c.args.words.now) c.in-Some.ensures) c.in_ok-tree.ensures c.in_err-end.ensures.1)

pub postfix::primary-returns-in-Some : goal.postfix::primary-returns-in-Some
postfix::primary-returns-in-Some t c = reads_group (map shown c.args.words.now) (group_start (map shown c.args.words.now) c.in-Some.ensures) c.in_ok-tree.ensures c.in_ok-end.ensures

pub postfix::closed_arguments-returns-in-Some : goal.postfix::closed_arguments-returns-in-Some
postfix::closed_arguments-returns-in-Some t c = rw c.new-items.ensures.items (reads_none (map shown c.args.words.now) c.in-Some.ensures)

pub postfix::closed_arguments-returns-in_err-first : goal.postfix::closed_arguments-returns-in_err-first
postfix::closed_arguments-returns-in_err-first t c = let p = err_from_is_err_and c.from_residual.result c.from_residual.ensures.1 in rw (p.1, p.2) (stopped (map shown c.args.words.now) (λ n h. refuses_argument (map shown c.args.words.now) [] (arguments_start (map shown c.args.words.now) c.in_default.ensures) h) _ c.in_err-first.ensures)

pub postfix::closed_arguments-loop-behind-init : goal.postfix::closed_arguments-loop-behind-init
postfix::closed_arguments-loop-behind-init t c = (rw (c.in_ok-push.ensures.items, with_item, c.new-items.ensures.items) (arguments_next (map shown c.args.words.now) [] (arguments_start (map shown c.args.words.now) c.in_default.ensures) c.in_ok-first.ensures), omega (arith, c.in_ok-first.ensures.place))

pub postfix::closed_arguments-returns-in_err-item : goal.postfix::closed_arguments-returns-in_err-item
postfix::closed_arguments-returns-in_err-item t c = let p = err_from_is_err_and c.from_residual-in_err-item.result c.from_residual-in_err-item.ensures.1 in rw (p.1, p.2) (stopped (map shown c.args.words.now) (λ n h. refuses_argument (map shown c.args.words.now) (map tree_of c.loop-behind.items.items) (arguments_more (map shown c.args.words.now) (map tree_of c.loop-behind.items.items) c.in-Some-after_mark.ensures c.loop-behind.invariant.0) h) _ c.in_err-item.ensures)

pub postfix::closed_arguments-loop-behind-preserved : goal.postfix::closed_arguments-loop-behind-preserved
postfix::closed_arguments-loop-behind-preserved t c = (rw (c.in_ok-push-2.ensures.items, with_item) (arguments_next (map shown c.args.words.now) (map tree_of c.loop-behind.items.items) (arguments_more (map shown c.args.words.now) (map tree_of c.loop-behind.items.items) c.in-Some-after_mark.ensures c.loop-behind.invariant.0) c.in_ok-item.ensures), omega (arith, c.in-Some-after_mark.ensures, c.in_ok-item.ensures.place))

pub postfix::closed_arguments-loop-behind-smaller : goal.postfix::closed_arguments-loop-behind-smaller
postfix::closed_arguments-loop-behind-smaller t c = omega (arith, c.in-Some-after_mark.ensures, c.in_ok-item.ensures.place)

pub postfix::closed_arguments-returns-in_err-end : goal.postfix::closed_arguments-returns-in_err-end
postfix::closed_arguments-returns-in_err-end t c = let p = err_from_is_err_and c.from_residual-in_err-end.result c.from_residual-in_err-end.ensures.1 in rw (p.1, p.2, c.in_err-end.ensures.0) (misses_close (map shown c.args.words.now) (map tree_of c.loop-behind.items.items) c.in_default-after_mark.ensures c.loop-behind.invariant.0 c.in_err-end.ensures.1)

pub postfix::closed_arguments-returns : goal.postfix::closed_arguments-returns
postfix::closed_arguments-returns t c = reads_arguments (map shown c.args.words.now) c.loop-behind.items.items c.in_default-after_mark.ensures c.loop-behind.invariant.0 c.in_ok-end.ensures

pub specifier::specifiers-returns-in_err-first-clause-parses : goal.specifier::specifiers-returns-in_err-first-clause-parses
specifier::specifiers-returns-in_err-first-clause-parses t c = let p = err_from_is_err_and c.from_residual.result c.from_residual.ensures.1 in rw (p.1, p.2) (stopped (map shown c.args.words.now) (λ n h. refuses_specifier (map shown c.args.words.now) [] (specifiers_start (map shown c.args.words.now) (c.args.names.now) c.args.at) h) _ c.in_err-first.ensures)

pub specifier::specifiers-loop-alloc-init : goal.specifier::specifiers-loop-alloc-init
specifier::specifiers-loop-alloc-init t c = (rw (c.in_ok-push.ensures.items, specifiers_item, c.new-items.ensures.items) (specifiers_next (map shown c.args.words.now) [] refl (specifiers_start (map shown c.args.words.now) (c.args.names.now) c.args.at) c.in_ok-first.ensures), omega (arith, c.in_ok-first.ensures.place), rw (c.in_ok-push.ensures.items, specifiers_item, c.new-items.ensures.items) c.adds_type-typed.ensures)

pub specifier::specifiers-returns-in_err-item-clause-parses : goal.specifier::specifiers-returns-in_err-item-clause-parses
specifier::specifiers-returns-in_err-item-clause-parses t c = let p = err_from_is_err_and c.from_residual-in_err-item.result c.from_residual-in_err-item.ensures.1 in rw (p.1, p.2) (stopped (map shown c.args.words.now) (λ n h. refuses_specifier (map shown c.args.words.now) (map specifier_tree c.loop-alloc.items.items) (specifiers_go (map shown c.args.words.now) (map specifier_tree c.loop-alloc.items.items) c.loop-alloc.invariant.2 (c.specifier_ahead.ensures.0 c.loop-alloc-test.true) c.loop-alloc.invariant.0) h) _ c.in_err-item.ensures)

pub specifier::specifiers-loop-alloc-smaller : goal.specifier::specifiers-loop-alloc-smaller
specifier::specifiers-loop-alloc-smaller t c = shorter (map shown c.args.words.now) c.in_ok-item.ensures (specifier_advances c.in_ok-item.ensures)

pub specifier::specifiers-loop-alloc-preserved : goal.specifier::specifiers-loop-alloc-preserved
specifier::specifiers-loop-alloc-preserved t c = (rw (c.in_ok-push-2.ensures.items, specifiers_item) (specifiers_next (map shown c.args.words.now) (map specifier_tree c.loop-alloc.items.items) c.loop-alloc.invariant.2 (specifiers_go (map shown c.args.words.now) (map specifier_tree c.loop-alloc.items.items) c.loop-alloc.invariant.2 (c.specifier_ahead.ensures.0 c.loop-alloc-test.true) c.loop-alloc.invariant.0) c.in_ok-item.ensures), omega (arith, c.in_ok-item.ensures.place), rw (c.in_ok-push-2.ensures.items, specifiers_item) (typed_next (map specifier_tree c.loop-alloc.items.items) _ c.adds_type-typed-in-loop-alloc.ensures c.loop-alloc.invariant.2))

pub specifier::specifiers-returns-clause-parses : goal.specifier::specifiers-returns-clause-parses
specifier::specifiers-returns-clause-parses t c = rw c.specifiers.ensures (specifiers_done (map shown c.args.words.now) (map specifier_tree c.loop-alloc.items.items) (typed_stop c.loop-alloc.invariant.2 (isnt_so c.specifier_ahead.ensures c.loop-alloc-test.false)) c.loop-alloc.invariant.0)

pub specifier::specifiers-returns-clause-behind : goal.specifier::specifiers-returns-clause-behind
specifier::specifiers-returns-clause-behind t c = rw c.specifiers.ensures (specifiers_stop c.args.at (map specifier_tree c.loop-alloc.items.items) c.loop-alloc.invariant.2 (isnt_so c.specifier_ahead.ensures c.loop-alloc-test.false))

pub specifier::specifier-returns-in-Some : goal.specifier::specifier-returns-in-Some
specifier::specifier-returns-in-Some t c = handed specifier_tree (map shown c.args.words.now) (struct_start (map shown c.args.words.now) c.in-Some.ensures) c.struct_specifier.result c.struct_specifier.ensures

pub specifier::specifier-returns-in-Some-after_keyword : goal.specifier::specifier-returns-in-Some-after_keyword
specifier::specifier-returns-in-Some-after_keyword t c = handed specifier_tree (map shown c.args.words.now) (enum_start (map shown c.args.words.now) c.in-Some-after_keyword.ensures) c.enum_specifier.result c.enum_specifier.ensures

pub specifier::struct_specifier-returns-in_err-inside-in-None : goal.specifier::struct_specifier-returns-in_err-inside-in-None
specifier::struct_specifier-returns-in_err-inside-in-None t c = let p = err_from_is_err_and c.from_residual.result c.from_residual.ensures.1 in rw (p.1, p.2, c.in_err-inside-in-None.ensures.0) (no_braced (map shown c.args.words.now) c.in_err-inside-in-None.ensures.1 c.in-None.ensures)

pub specifier::struct_specifier-returns-in_err-members-in-None : goal.specifier::struct_specifier-returns-in_err-members-in-None
specifier::struct_specifier-returns-in_err-members-in-None t c = let p = err_from_is_err_and c.from_residual-in_err-members-in-None.result c.from_residual-in_err-members-in-None.ensures.1 in rw (p.1, p.2) (stopped (map shown c.args.words.now) (λ n h. refuses_list (map shown c.args.words.now) (untagged_start (map shown c.args.words.now) c.in_ok-inside-in-None.ensures) h) _ c.in_err-members-in-None.ensures)

pub specifier::struct_specifier-returns-in_ok-members-in-None : goal.specifier::struct_specifier-returns-in_ok-members-in-None
specifier::struct_specifier-returns-in_ok-members-in-None t c = rw c.struct_specifier.ensures (reads_list (map shown c.args.words.now) (untagged_start (map shown c.args.words.now) c.in_ok-inside-in-None.ensures) c.in_ok-members-in-None.ensures)

pub specifier::struct_specifier-returns-in_ok-tree-in-None-after_mark : goal.specifier::struct_specifier-returns-in_ok-tree-in-None-after_mark
specifier::struct_specifier-returns-in_ok-tree-in-None-after_mark t c = rw c.in_ok-tree-in-None-after_mark.ensures (reads_tag (map shown c.args.words.now) c.in-None-after_mark.ensures (tag_start (map shown c.args.words.now) c.in-Some.ensures))

pub specifier::struct_specifier-returns-in_err-members-in-Some-after_mark : goal.specifier::struct_specifier-returns-in_err-members-in-Some-after_mark
specifier::struct_specifier-returns-in_err-members-in-Some-after_mark t c = let p = err_from_is_err_and c.from_residual-in_err-members-in-Some-after_mark.result c.from_residual-in_err-members-in-Some-after_mark.ensures.1 in rw (p.1, p.2) (stopped (map shown c.args.words.now) (λ n h. refuses_list (map shown c.args.words.now) (tagged_start (map shown c.args.words.now) c.in-Some-after_mark.ensures (tag_start (map shown c.args.words.now) c.in-Some.ensures)) h) _ c.in_err-members-in-Some-after_mark.ensures)

pub specifier::struct_specifier-returns-in_ok-tree-in-Some-after_mark : goal.specifier::struct_specifier-returns-in_ok-tree-in-Some-after_mark
specifier::struct_specifier-returns-in_ok-tree-in-Some-after_mark t c = rw c.in_ok-tree-in-Some-after_mark.ensures (reads_list (map shown c.args.words.now) (tagged_start (map shown c.args.words.now) c.in-Some-after_mark.ensures (tag_start (map shown c.args.words.now) c.in-Some.ensures)) c.in_ok-members-in-Some-after_mark.ensures)

pub specifier::enum_specifier-returns-in_err-inside-in-None : goal.specifier::enum_specifier-returns-in_err-inside-in-None
specifier::enum_specifier-returns-in_err-inside-in-None t c = let p = err_from_is_err_and c.from_residual.result c.from_residual.ensures.1 in rw (p.1, p.2, c.in_err-inside-in-None.ensures.0) (no_braced (map shown c.args.words.now) c.in_err-inside-in-None.ensures.1 c.in-None.ensures)

pub specifier::enum_specifier-returns-in_err-enumerators-in-None : goal.specifier::enum_specifier-returns-in_err-enumerators-in-None
specifier::enum_specifier-returns-in_err-enumerators-in-None t c = let p = err_from_is_err_and c.from_residual-in_err-enumerators-in-None.result c.from_residual-in_err-enumerators-in-None.ensures.1 in rw (p.1, p.2) (stopped (map shown c.args.words.now) (λ n h. refuses_list (map shown c.args.words.now) (untagged_start (map shown c.args.words.now) c.in_ok-inside-in-None.ensures) h) _ c.in_err-enumerators-in-None.ensures)

pub specifier::enum_specifier-returns-in_ok-enumerators-in-None : goal.specifier::enum_specifier-returns-in_ok-enumerators-in-None
specifier::enum_specifier-returns-in_ok-enumerators-in-None t c = rw c.enum_specifier.ensures (reads_list (map shown c.args.words.now) (untagged_start (map shown c.args.words.now) c.in_ok-inside-in-None.ensures) c.in_ok-enumerators-in-None.ensures)

pub specifier::enum_specifier-returns-in_ok-tree-in-None-after_mark : goal.specifier::enum_specifier-returns-in_ok-tree-in-None-after_mark
specifier::enum_specifier-returns-in_ok-tree-in-None-after_mark t c = rw c.in_ok-tree-in-None-after_mark.ensures (reads_tag (map shown c.args.words.now) c.in-None-after_mark.ensures (tag_start (map shown c.args.words.now) c.in-Some.ensures))

pub specifier::enum_specifier-returns-in_err-enumerators-in-Some-after_mark : goal.specifier::enum_specifier-returns-in_err-enumerators-in-Some-after_mark
specifier::enum_specifier-returns-in_err-enumerators-in-Some-after_mark t c = let p = err_from_is_err_and c.from_residual-in_err-enumerators-in-Some-after_mark.result c.from_residual-in_err-enumerators-in-Some-after_mark.ensures.1 in rw (p.1, p.2) (stopped (map shown c.args.words.now) (λ n h. refuses_list (map shown c.args.words.now) (tagged_start (map shown c.args.words.now) c.in-Some-after_mark.ensures (tag_start (map shown c.args.words.now) c.in-Some.ensures)) h) _ c.in_err-enumerators-in-Some-after_mark.ensures)

pub specifier::enum_specifier-returns-in_ok-tree-in-Some-after_mark : goal.specifier::enum_specifier-returns-in_ok-tree-in-Some-after_mark
specifier::enum_specifier-returns-in_ok-tree-in-Some-after_mark t c = rw c.in_ok-tree-in-Some-after_mark.ensures (reads_list (map shown c.args.words.now) (tagged_start (map shown c.args.words.now) c.in-Some-after_mark.ensures (tag_start (map shown c.args.words.now) c.in-Some.ensures)) c.in_ok-enumerators-in-Some-after_mark.ensures)

pub member::closed_members-returns-in_err-first : goal.member::closed_members-returns-in_err-first
member::closed_members-returns-in_err-first t c = let p = err_from_is_err_and c.from_residual.result c.from_residual.ensures.1 in rw (p.1, p.2) (stopped (map shown c.args.words.now) (λ n h. refuses_member (map shown c.args.words.now) [] (members_start (map shown c.args.words.now) (c.args.names.now) c.args.at) h) _ c.in_err-first.ensures)

pub member::closed_members-loop-alloc-init : goal.member::closed_members-loop-alloc-init
member::closed_members-loop-alloc-init t c = (rw (c.in_ok-push.ensures.items, members_item, c.new-items.ensures.items) (members_next (map shown c.args.words.now) [] (members_start (map shown c.args.words.now) (c.args.names.now) c.args.at) c.in_ok-first.ensures), omega (arith, c.in_ok-first.ensures.place))

pub member::closed_members-returns-in_err-item : goal.member::closed_members-returns-in_err-item
member::closed_members-returns-in_err-item t c = let p = err_from_is_err_and c.from_residual-in_err-item.result c.from_residual-in_err-item.ensures.1 in rw (p.1, p.2) (stopped (map shown c.args.words.now) (λ n h. refuses_member (map shown c.args.words.now) (map member_tree c.loop-alloc.items.items) (members_more (map shown c.args.words.now) (map member_tree c.loop-alloc.items.items) (c.begins_specifiers.ensures.0 c.loop-alloc-test.true) c.loop-alloc.invariant.0) h) _ c.in_err-item.ensures)

pub member::closed_members-loop-alloc-smaller : goal.member::closed_members-loop-alloc-smaller
member::closed_members-loop-alloc-smaller t c = shorter (map shown c.args.words.now) c.in_ok-item.ensures (member_advances c.in_ok-item.ensures)

pub member::closed_members-loop-alloc-preserved : goal.member::closed_members-loop-alloc-preserved
member::closed_members-loop-alloc-preserved t c = (rw (c.in_ok-push-2.ensures.items, members_item) (members_next (map shown c.args.words.now) (map member_tree c.loop-alloc.items.items) (members_more (map shown c.args.words.now) (map member_tree c.loop-alloc.items.items) (c.begins_specifiers.ensures.0 c.loop-alloc-test.true) c.loop-alloc.invariant.0) c.in_ok-item.ensures), omega (arith, c.in_ok-item.ensures.place))

pub member::closed_members-returns-in_err-end : goal.member::closed_members-returns-in_err-end
member::closed_members-returns-in_err-end t c = let p = err_from_is_err_and c.from_residual-in_err-end.result c.from_residual-in_err-end.ensures.1 in rw (p.1, p.2, c.in_err-end.ensures.0) (ml.misses_brace (map shown c.args.words.now) (map member_tree c.loop-alloc.items.items) (isnt_so c.begins_specifiers.ensures c.loop-alloc-test.false) c.loop-alloc.invariant.0 c.in_err-end.ensures.1)

pub member::closed_members-returns : goal.member::closed_members-returns
member::closed_members-returns t c = reads_members (map shown c.args.words.now) (map member_tree c.loop-alloc.items.items) (isnt_so c.begins_specifiers.ensures c.loop-alloc-test.false) c.loop-alloc.invariant.0 c.in_ok-end.ensures

pub member::member-returns-in_err-specifiers : goal.member::member-returns-in_err-specifiers
member::member-returns-in_err-specifiers t c = let p = err_from_is_err_and c.from_residual.result c.from_residual.ensures.1 in rw (p.1, p.2) (stopped (map shown c.args.words.now) (λ n h. refuses_its_specifiers (map shown c.args.words.now) (member_start (map shown c.args.words.now) (c.args.names.now) c.args.at) h) _ c.in_err-specifiers.ensures.parses)

pub member::member-returns-in_err-declarators : goal.member::member-returns-in_err-declarators
member::member-returns-in_err-declarators t c = let p = err_from_is_err_and c.from_residual-in_err-declarators.result c.from_residual-in_err-declarators.ensures.1 in rw (p.1, p.2) (stopped (map shown c.args.words.now) (λ n h. last_refused h (after_specifiers (map shown c.args.words.now) (member_start (map shown c.args.words.now) (c.args.names.now) c.args.at) c.in_ok-specifiers.ensures.parses c.in_ok-specifiers.ensures.behind)) _ c.in_err-declarators.ensures)

pub member::member-returns : goal.member::member-returns
member::member-returns t c = rw c.member.ensures (last c.in_ok-declarators.ensures (after_specifiers (map shown c.args.words.now) (member_start (map shown c.args.words.now) (c.args.names.now) c.args.at) c.in_ok-specifiers.ensures.parses c.in_ok-specifiers.ensures.behind))

pub member::closed_declarators-returns-in_err-first : goal.member::closed_declarators-returns-in_err-first
member::closed_declarators-returns-in_err-first t c = let p = err_from_is_err_and c.from_residual.result c.from_residual.ensures.1 in rw (p.1, p.2) (stopped (map shown c.args.words.now) (λ n h. refuses_declarator (map shown c.args.words.now) [] (declarators_start (map shown c.args.words.now) (c.args.names.now) c.args.at) h) _ c.in_err-first.ensures)

pub member::closed_declarators-loop-behind-init : goal.member::closed_declarators-loop-behind-init
member::closed_declarators-loop-behind-init t c = (rw (c.in_ok-push.ensures.items, declarators_item, c.new-items.ensures.items) (declarators_next (map shown c.args.words.now) [] (declarators_start (map shown c.args.words.now) (c.args.names.now) c.args.at) c.in_ok-first.ensures), omega (arith, c.in_ok-first.ensures.place))

pub member::closed_declarators-returns-in_err-item : goal.member::closed_declarators-returns-in_err-item
member::closed_declarators-returns-in_err-item t c = let p = err_from_is_err_and c.from_residual-in_err-item.result c.from_residual-in_err-item.ensures.1 in rw (p.1, p.2) (stopped (map shown c.args.words.now) (λ n h. refuses_declarator (map shown c.args.words.now) (map declarator_of c.loop-behind.items.items) (declarators_more (map shown c.args.words.now) (map declarator_of c.loop-behind.items.items) c.in-Some.ensures c.loop-behind.invariant.0) h) _ c.in_err-item.ensures)

pub member::closed_declarators-loop-behind-preserved : goal.member::closed_declarators-loop-behind-preserved
member::closed_declarators-loop-behind-preserved t c = (rw (c.in_ok-push-2.ensures.items, declarators_item) (declarators_next (map shown c.args.words.now) (map declarator_of c.loop-behind.items.items) (declarators_more (map shown c.args.words.now) (map declarator_of c.loop-behind.items.items) c.in-Some.ensures c.loop-behind.invariant.0) c.in_ok-item.ensures), omega (arith, c.in-Some.ensures, c.in_ok-item.ensures.place))

pub member::closed_declarators-returns-in_err-end : goal.member::closed_declarators-returns-in_err-end
member::closed_declarators-returns-in_err-end t c = let p = err_from_is_err_and c.from_residual-in_err-end.result c.from_residual-in_err-end.ensures.1 in rw (p.1, p.2, c.in_err-end.ensures.0) (misses_semicolon (map shown c.args.words.now) (map declarator_of c.loop-behind.items.items) c.in_default.ensures c.loop-behind.invariant.0 c.in_err-end.ensures.1)

pub member::closed_declarators-returns : goal.member::closed_declarators-returns
member::closed_declarators-returns t c = reads_declarators (map shown c.args.words.now) (map declarator_of c.loop-behind.items.items) c.in_default.ensures c.loop-behind.invariant.0 c.in_ok-end.ensures

pub parameter::closed_parameters-returns-in-Some : goal.parameter::closed_parameters-returns-in-Some
parameter::closed_parameters-returns-in-Some t c = rw c.new-items.ensures.items (pl.reads_none (map shown c.args.words.now) c.in-Some.ensures)

pub parameter::closed_parameters-returns-in_err-first : goal.parameter::closed_parameters-returns-in_err-first
parameter::closed_parameters-returns-in_err-first t c = let p = err_from_is_err_and c.from_residual.result c.from_residual.ensures.1 in rw (p.1, p.2) (stopped (map shown c.args.words.now) (λ n h. refuses_parameter (map shown c.args.words.now) [] (parameters_start (map shown c.args.words.now) c.in_default.ensures) h) _ c.in_err-first.ensures)

pub parameter::closed_parameters-loop-behind-init : goal.parameter::closed_parameters-loop-behind-init
parameter::closed_parameters-loop-behind-init t c = (rw (c.in_ok-push.ensures.items, parameters_item, c.new-items.ensures.items) (parameters_next (map shown c.args.words.now) [] (parameters_start (map shown c.args.words.now) c.in_default.ensures) c.in_ok-first.ensures), omega (arith, c.in_ok-first.ensures.place))

pub parameter::closed_parameters-returns-in_err-item : goal.parameter::closed_parameters-returns-in_err-item
parameter::closed_parameters-returns-in_err-item t c = let p = err_from_is_err_and c.from_residual-in_err-item.result c.from_residual-in_err-item.ensures.1 in rw (p.1, p.2) (stopped (map shown c.args.words.now) (λ n h. refuses_parameter (map shown c.args.words.now) (map parameter_tree c.loop-behind.items.items) (parameters_more (map shown c.args.words.now) (map parameter_tree c.loop-behind.items.items) c.in-Some-after_mark.ensures c.loop-behind.invariant.0) h) _ c.in_err-item.ensures)

pub parameter::closed_parameters-loop-behind-preserved : goal.parameter::closed_parameters-loop-behind-preserved
parameter::closed_parameters-loop-behind-preserved t c = (rw (c.in_ok-push-2.ensures.items, parameters_item) (parameters_next (map shown c.args.words.now) (map parameter_tree c.loop-behind.items.items) (parameters_more (map shown c.args.words.now) (map parameter_tree c.loop-behind.items.items) c.in-Some-after_mark.ensures c.loop-behind.invariant.0) c.in_ok-item.ensures), omega (arith, c.in-Some-after_mark.ensures, c.in_ok-item.ensures.place))

pub parameter::closed_parameters-returns-in_err-end : goal.parameter::closed_parameters-returns-in_err-end
parameter::closed_parameters-returns-in_err-end t c = let p = err_from_is_err_and c.from_residual-in_err-end.result c.from_residual-in_err-end.ensures.1 in rw (p.1, p.2, c.in_err-end.ensures.0) (pl.misses_paren (map shown c.args.words.now) (map parameter_tree c.loop-behind.items.items) c.in_default-after_mark.ensures c.loop-behind.invariant.0 c.in_err-end.ensures.1)

pub parameter::closed_parameters-returns : goal.parameter::closed_parameters-returns
parameter::closed_parameters-returns t c = reads_parameters (map shown c.args.words.now) (map parameter_tree c.loop-behind.items.items) c.in_default-after_mark.ensures c.loop-behind.invariant.0 c.in_ok-end.ensures

pub parameter::parameter-returns-in_err-specifiers : goal.parameter::parameter-returns-in_err-specifiers
parameter::parameter-returns-in_err-specifiers t c = let p = err_from_is_err_and c.from_residual.result c.from_residual.ensures.1 in rw (p.1, p.2) (stopped (map shown c.args.words.now) (λ n h. refuses_parameter_specifiers (map shown c.args.words.now) (parameter_start (map shown c.args.words.now) (c.args.names.now) c.args.at) h) _ c.in_err-specifiers.ensures.parses)

pub parameter::parameter-returns-in_err-declarator : goal.parameter::parameter-returns-in_err-declarator
parameter::parameter-returns-in_err-declarator t c = let p = err_from_is_err_and c.from_residual-in_err-declarator.result c.from_residual-in_err-declarator.ensures.1 in rw (p.1, p.2) (stopped (map shown c.args.words.now) (λ n h. last_refused h (parameter_declared (map shown c.args.words.now) (parameter_start (map shown c.args.words.now) (c.args.names.now) c.args.at) c.in_ok-specifiers.ensures.parses c.in_ok-specifiers.ensures.behind)) _ c.in_err-declarator.ensures)

pub parameter::parameter-returns : goal.parameter::parameter-returns
parameter::parameter-returns t c = rw c.in_ok-tree.ensures (last c.in_ok-declarator.ensures (parameter_declared (map shown c.args.words.now) (parameter_start (map shown c.args.words.now) (c.args.names.now) c.args.at) c.in_ok-specifiers.ensures.parses c.in_ok-specifiers.ensures.behind))

pub type_name::closed_type_name-returns-in_err-specifiers : goal.type_name::closed_type_name-returns-in_err-specifiers
type_name::closed_type_name-returns-in_err-specifiers t c = let p = err_from_is_err_and c.from_residual.result c.from_residual.ensures.1 in rw (p.1, p.2) (stopped (map shown c.args.words.now) (λ n h. refuses_type_specifiers (map shown c.args.words.now) (type_start (map shown c.args.words.now) (c.args.names.now) c.args.at) h) _ c.in_err-specifiers.ensures.parses)

pub type_name::closed_type_name-returns-in_err-declarator : goal.type_name::closed_type_name-returns-in_err-declarator
type_name::closed_type_name-returns-in_err-declarator t c = let p = err_from_is_err_and c.from_residual-in_err-declarator.result c.from_residual-in_err-declarator.ensures.1 in rw (p.1, p.2) (stopped (map shown c.args.words.now) (λ n h. refuses_type_declarator (map shown c.args.words.now) (type_declared (map shown c.args.words.now) (type_start (map shown c.args.words.now) (c.args.names.now) c.args.at) c.in_ok-specifiers.ensures.parses) h) _ c.in_err-declarator.ensures)

pub type_name::closed_type_name-returns-in_err-end : goal.type_name::closed_type_name-returns-in_err-end
type_name::closed_type_name-returns-in_err-end t c = let p = err_from_is_err_and c.from_residual-in_err-end.result c.from_residual-in_err-end.ensures.1 in rw (p.1, p.2, c.in_err-end.ensures.0) (misses_type_end (map shown c.args.words.now) (type_declared (map shown c.args.words.now) (type_start (map shown c.args.words.now) (c.args.names.now) c.args.at) c.in_ok-specifiers.ensures.parses) c.in_ok-declarator.ensures c.in_err-end.ensures.1)

pub type_name::closed_type_name-returns : goal.type_name::closed_type_name-returns
type_name::closed_type_name-returns t c = rw c.in_ok-tree.ensures (reads_type (map shown c.args.words.now) (type_declared (map shown c.args.words.now) (type_start (map shown c.args.words.now) (c.args.names.now) c.args.at) c.in_ok-specifiers.ensures.parses) c.in_ok-declarator.ensures c.in_ok-end.ensures)

pub enumerator::closed_enumerators-returns-in_err-first : goal.enumerator::closed_enumerators-returns-in_err-first
enumerator::closed_enumerators-returns-in_err-first t c = let p = err_from_is_err_and c.from_residual.result c.from_residual.ensures.1 in rw (p.1, p.2) (stopped (map shown c.args.words.now) (λ n h. refuses_enumerator (map shown c.args.words.now) [] (enumerators_start (map shown c.args.words.now) (c.args.names.now) c.args.at) h) _ c.in_err-first.ensures)

pub enumerator::closed_enumerators-loop-behind-init : goal.enumerator::closed_enumerators-loop-behind-init
enumerator::closed_enumerators-loop-behind-init t c = (rw (c.in_ok-push.ensures.items, enumerators_item, c.new-items.ensures.items) (enumerators_next (map shown c.args.words.now) [] (enumerators_start (map shown c.args.words.now) (c.args.names.now) c.args.at) c.in_ok-first.ensures), omega (arith, c.in_ok-first.ensures.place))

pub enumerator::closed_enumerators-returns-in-Some-after_mark : goal.enumerator::closed_enumerators-returns-in-Some-after_mark
enumerator::closed_enumerators-returns-in-Some-after_mark t c = reads_trailing (map shown c.args.words.now) (map enumerator_tree c.loop-behind.items.items) c.in-Some-after_mark.ensures (enumerators_comma (map shown c.args.words.now) (map enumerator_tree c.loop-behind.items.items) c.in-Some.ensures c.loop-behind.invariant.0)

pub enumerator::closed_enumerators-returns-in_err-item : goal.enumerator::closed_enumerators-returns-in_err-item
enumerator::closed_enumerators-returns-in_err-item t c = let p = err_from_is_err_and c.from_residual-in_err-item.result c.from_residual-in_err-item.ensures.1 in rw (p.1, p.2) (stopped (map shown c.args.words.now) (λ n h. refuses_enumerator (map shown c.args.words.now) (map enumerator_tree c.loop-behind.items.items) (enumerators_more (map shown c.args.words.now) (map enumerator_tree c.loop-behind.items.items) c.in_default-after_mark.ensures (enumerators_comma (map shown c.args.words.now) (map enumerator_tree c.loop-behind.items.items) c.in-Some.ensures c.loop-behind.invariant.0)) h) _ c.in_err-item.ensures)

pub enumerator::closed_enumerators-loop-behind-preserved : goal.enumerator::closed_enumerators-loop-behind-preserved
enumerator::closed_enumerators-loop-behind-preserved t c = (rw (c.in_ok-push-2.ensures.items, enumerators_item) (enumerators_next (map shown c.args.words.now) (map enumerator_tree c.loop-behind.items.items) (enumerators_more (map shown c.args.words.now) (map enumerator_tree c.loop-behind.items.items) c.in_default-after_mark.ensures (enumerators_comma (map shown c.args.words.now) (map enumerator_tree c.loop-behind.items.items) c.in-Some.ensures c.loop-behind.invariant.0)) c.in_ok-item.ensures), omega (arith, c.in-Some.ensures, c.in_ok-item.ensures.place))

pub enumerator::closed_enumerators-returns-in_err-end : goal.enumerator::closed_enumerators-returns-in_err-end
enumerator::closed_enumerators-returns-in_err-end t c = let p = err_from_is_err_and c.from_residual-in_err-end.result c.from_residual-in_err-end.ensures.1 in rw (p.1, p.2, c.in_err-end.ensures.0) (el.misses_brace (map shown c.args.words.now) (map enumerator_tree c.loop-behind.items.items) c.in_default.ensures c.loop-behind.invariant.0 c.in_err-end.ensures.1)

pub enumerator::closed_enumerators-returns : goal.enumerator::closed_enumerators-returns
enumerator::closed_enumerators-returns t c = reads_enumerators (map shown c.args.words.now) (map enumerator_tree c.loop-behind.items.items) c.in_default.ensures c.loop-behind.invariant.0 c.in_ok-end.ensures

pub enumerator::enumerator-returns-in_err-name : goal.enumerator::enumerator-returns-in_err-name
enumerator::enumerator-returns-in_err-name t c = let p = err_from_is_err_and c.from_residual.result c.from_residual.ensures.1 in rw (p.1, p.2, c.in_err-name.ensures.0) (no_enumerator (map shown c.args.words.now) (c.args.names.now) c.in_err-name.ensures.1)

pub enumerator::enumerator-returns-in_ok-tree-in-None : goal.enumerator::enumerator-returns-in_ok-tree-in-None
enumerator::enumerator-returns-in_ok-tree-in-None t c = rw c.in_ok-tree-in-None.ensures (reads_unvalued (map shown c.args.words.now) c.in-None.ensures (enumerator_named (map shown c.args.words.now) (c.args.names.now) c.in_ok-name.ensures))

pub enumerator::enumerator-returns-in_err-value-in-Some : goal.enumerator::enumerator-returns-in_err-value-in-Some
enumerator::enumerator-returns-in_err-value-in-Some t c = let p = err_from_is_err_and c.from_residual-in_err-value-in-Some.result c.from_residual-in_err-value-in-Some.ensures.1 in rw (p.1, p.2) (stopped (map shown c.args.words.now) (λ n h. last_refused h (value_start (map shown c.args.words.now) c.in-Some.ensures (enumerator_named (map shown c.args.words.now) (c.args.names.now) c.in_ok-name.ensures))) _ c.in_err-value-in-Some.ensures)

pub enumerator::enumerator-returns-in_ok-tree-in-Some : goal.enumerator::enumerator-returns-in_ok-tree-in-Some
enumerator::enumerator-returns-in_ok-tree-in-Some t c = rw c.in_ok-tree-in-Some.ensures (last c.in_ok-value-in-Some.ensures (value_start (map shown c.args.words.now) c.in-Some.ensures (enumerator_named (map shown c.args.words.now) (c.args.names.now) c.in_ok-name.ensures)))

pub declarators::maybe_declarator-returns-then-not-declarator_ahead : goal.declarators::maybe_declarator-returns-then-not-declarator_ahead
declarators::maybe_declarator-returns-then-not-declarator_ahead t c = reads_no_declarator (map shown c.args.words.now) (c.args.names.now) c.args.form c.args.at (isnt_so c.declarator_ahead.ensures c.if-not-declarator_ahead.true)

pub declarators::maybe_declarator-returns-in_err-tree : goal.declarators::maybe_declarator-returns-in_err-tree
declarators::maybe_declarator-returns-in_err-tree t c = let p = err_from_is_err_and c.from_residual.result c.from_residual.ensures.1 in rw (p.1, p.2) (stopped (map shown c.args.words.now) (λ n h. last_refused h (declarator_ahead (map shown c.args.words.now) (c.args.names.now) c.args.form c.args.at (c.declarator_ahead.ensures.0 c.if-not-declarator_ahead.false))) _ c.in_err-tree.ensures)

pub declarators::maybe_declarator-returns : goal.declarators::maybe_declarator-returns
declarators::maybe_declarator-returns t c = last c.in_ok-tree.ensures (declarator_ahead (map shown c.args.words.now) (c.args.names.now) c.args.form c.args.at (c.declarator_ahead.ensures.0 c.if-not-declarator_ahead.false))

pub declarators::declarator-returns-in_err-stars : goal.declarators::declarator-returns-in_err-stars
declarators::declarator-returns-in_err-stars t c = let p = err_from_is_err_and c.from_residual.result c.from_residual.ensures.1 in rw (p.1, p.2) (stopped (map shown c.args.words.now) (λ n h. refuses_stars (map shown c.args.words.now) (c.args.names.now) c.args.form h) _ c.in_err-stars.ensures)

pub declarators::declarator-returns-in_err-name : goal.declarators::declarator-returns-in_err-name
declarators::declarator-returns-in_err-name t c = let p = err_from_is_err_and c.from_residual-in_err-name.result c.from_residual-in_err-name.ensures.1 in rw (p.1, p.2) (core_stops (map shown c.args.words.now) c.unstarred.result (ap (λ z. tree.unstarred (map (λ star. star.consts) z)) (sym c.deref.ensures.value) ∙ sym c.unstarred.ensures) (after_stars (map shown c.args.words.now) (c.args.names.now) c.args.form c.in_ok-stars.ensures) _ c.in_err-name.ensures)

pub declarators::declarator-returns-in_err-suffixes-in-Name : goal.declarators::declarator-returns-in_err-suffixes-in-Name
declarators::declarator-returns-in_err-suffixes-in-Name t c = let p = err_from_is_err_and c.from_residual-in_err-suffixes-in-Name.result c.from_residual-in_err-suffixes-in-Name.ensures.1 in rw (p.1, p.2) (stopped (map shown c.args.words.now) (λ n h. last_refused h (named_core (map shown c.args.words.now) (is_name (c.args.names.now) c.unstarred.result c.in-Name.is c.in_ok-name.ensures).0 (is_name (c.args.names.now) c.unstarred.result c.in-Name.is c.in_ok-name.ensures).1 (after_stars (map shown c.args.words.now) (c.args.names.now) c.args.form c.in_ok-stars.ensures))) _ c.in_err-suffixes-in-Name.ensures)

pub declarators::declarator-returns-in_ok-tree-in-Name : goal.declarators::declarator-returns-in_ok-tree-in-Name
declarators::declarator-returns-in_ok-tree-in-Name t c = rw c.in_ok-tree-in-Name.ensures (last c.in_ok-suffixes-in-Name.ensures (named_core (map shown c.args.words.now) (is_name (c.args.names.now) c.unstarred.result c.in-Name.is c.in_ok-name.ensures).0 (is_name (c.args.names.now) c.unstarred.result c.in-Name.is c.in_ok-name.ensures).1 (after_stars (map shown c.args.words.now) (c.args.names.now) c.args.form c.in_ok-stars.ensures)))

pub declarators::declarator-returns-in_err-core-in-Inner : goal.declarators::declarator-returns-in_err-core-in-Inner
declarators::declarator-returns-in_err-core-in-Inner t c = let p = err_from_is_err_and c.from_residual-in_err-core-in-Inner.result c.from_residual-in_err-core-in-Inner.ensures.1 in rw (p.1, p.2) (stopped (map shown c.args.words.now) (λ n h. refuses_inner (map shown c.args.words.now) c.args.form c.in-Inner.inner (inner_core (map shown c.args.words.now) (is_inner (c.args.names.now) c.unstarred.result c.in-Inner.is c.in_ok-name.ensures).0 (is_inner (c.args.names.now) c.unstarred.result c.in-Inner.is c.in_ok-name.ensures).1 (after_stars (map shown c.args.words.now) (c.args.names.now) c.args.form c.in_ok-stars.ensures)) h) _ c.in_err-core-in-Inner.ensures)

pub declarators::declarator-returns-in_err-behind-in-Inner : goal.declarators::declarator-returns-in_err-behind-in-Inner
declarators::declarator-returns-in_err-behind-in-Inner t c = let p = err_from_is_err_and c.from_residual-in_err-behind-in-Inner.result c.from_residual-in_err-behind-in-Inner.ensures.1 in rw (p.1, p.2, c.in_err-behind-in-Inner.ensures.0) (misses_inner_end (map shown c.args.words.now) c.args.form c.in-Inner.inner (inner_core (map shown c.args.words.now) (is_inner (c.args.names.now) c.unstarred.result c.in-Inner.is c.in_ok-name.ensures).0 (is_inner (c.args.names.now) c.unstarred.result c.in-Inner.is c.in_ok-name.ensures).1 (after_stars (map shown c.args.words.now) (c.args.names.now) c.args.form c.in_ok-stars.ensures)) c.in_ok-core-in-Inner.ensures c.in_err-behind-in-Inner.ensures.1)

pub declarators::declarator-returns-in_err-suffixes-in-Inner : goal.declarators::declarator-returns-in_err-suffixes-in-Inner
declarators::declarator-returns-in_err-suffixes-in-Inner t c = let p = err_from_is_err_and c.from_residual-in_err-suffixes-in-Inner.result c.from_residual-in_err-suffixes-in-Inner.ensures.1 in rw (p.1, p.2) (stopped (map shown c.args.words.now) (λ n h. last_refused h (inner_suffixes (map shown c.args.words.now) c.args.form c.in-Inner.inner (inner_core (map shown c.args.words.now) (is_inner (c.args.names.now) c.unstarred.result c.in-Inner.is c.in_ok-name.ensures).0 (is_inner (c.args.names.now) c.unstarred.result c.in-Inner.is c.in_ok-name.ensures).1 (after_stars (map shown c.args.words.now) (c.args.names.now) c.args.form c.in_ok-stars.ensures)) c.in_ok-core-in-Inner.ensures c.in_ok-behind-in-Inner.ensures)) _ c.in_err-suffixes-in-Inner.ensures)

pub declarators::declarator-returns-in_ok-tree-in-Inner : goal.declarators::declarator-returns-in_ok-tree-in-Inner
declarators::declarator-returns-in_ok-tree-in-Inner t c = rw c.in_ok-tree-in-Inner.ensures (last c.in_ok-suffixes-in-Inner.ensures (inner_suffixes (map shown c.args.words.now) c.args.form c.in-Inner.inner (inner_core (map shown c.args.words.now) (is_inner (c.args.names.now) c.unstarred.result c.in-Inner.is c.in_ok-name.ensures).0 (is_inner (c.args.names.now) c.unstarred.result c.in-Inner.is c.in_ok-name.ensures).1 (after_stars (map shown c.args.words.now) (c.args.names.now) c.args.form c.in_ok-stars.ensures)) c.in_ok-core-in-Inner.ensures c.in_ok-behind-in-Inner.ensures))

pub declarators::declarator-returns-in_err-suffixes-in-Nothing : goal.declarators::declarator-returns-in_err-suffixes-in-Nothing
declarators::declarator-returns-in_err-suffixes-in-Nothing t c = let p = err_from_is_err_and c.from_residual-in_err-suffixes-in-Nothing.result c.from_residual-in_err-suffixes-in-Nothing.ensures.1 in rw (p.1, p.2) (stopped (map shown c.args.words.now) (λ n h. last_refused h (nameless_core (map shown c.args.words.now) (is_nothing c.in-Nothing.is (ap (λ z. tree.unstarred (map (λ star. star.consts) z)) (sym c.deref.ensures.value) ∙ sym c.unstarred.ensures) c.in_ok-name.ensures) (after_stars (map shown c.args.words.now) (c.args.names.now) c.args.form c.in_ok-stars.ensures))) _ c.in_err-suffixes-in-Nothing.ensures)

pub declarators::declarator-returns-in_ok-suffixes-in-Nothing : goal.declarators::declarator-returns-in_ok-suffixes-in-Nothing
declarators::declarator-returns-in_ok-suffixes-in-Nothing t c = rw c.nameless.ensures (last c.in_ok-suffixes-in-Nothing.ensures (nameless_core (map shown c.args.words.now) (is_nothing c.in-Nothing.is (ap (λ z. tree.unstarred (map (λ star. star.consts) z)) (sym c.deref.ensures.value) ∙ sym c.unstarred.ensures) c.in_ok-name.ensures) (after_stars (map shown c.args.words.now) (c.args.names.now) c.args.form c.in_ok-stars.ensures)))

pub declarators::suffixes-loop-alloc-init : goal.declarators::suffixes-loop-alloc-init
declarators::suffixes-loop-alloc-init t c = (rw c.new-items.ensures.items (suffixes_start (map shown c.args.words.now) (c.args.names.now) c.args.at), omega arith)

pub declarators::suffixes-returns-in_err-item : goal.declarators::suffixes-returns-in_err-item
declarators::suffixes-returns-in_err-item t c = let p = err_from_is_err_and c.from_residual.result c.from_residual.ensures.1 in rw (p.1, p.2) (stopped (map shown c.args.words.now) (λ n h. refuses_suffix (map shown c.args.words.now) (map suffix_tree c.loop-alloc.items.items) (suffixes_more (map shown c.args.words.now) (map suffix_tree c.loop-alloc.items.items) (c.suffix_ahead.ensures.0 c.loop-alloc-test.true) c.loop-alloc.invariant.0) h) _ c.in_err-item.ensures)

pub declarators::suffixes-loop-alloc-smaller : goal.declarators::suffixes-loop-alloc-smaller
declarators::suffixes-loop-alloc-smaller t c = shorter (map shown c.args.words.now) c.in_ok-item.ensures (suffix_advances c.in_ok-item.ensures)

pub declarators::suffixes-loop-alloc-preserved : goal.declarators::suffixes-loop-alloc-preserved
declarators::suffixes-loop-alloc-preserved t c = (rw (c.in_ok-push.ensures.items, suffixes_item) (suffixes_next (map shown c.args.words.now) (map suffix_tree c.loop-alloc.items.items) (suffixes_more (map shown c.args.words.now) (map suffix_tree c.loop-alloc.items.items) (c.suffix_ahead.ensures.0 c.loop-alloc-test.true) c.loop-alloc.invariant.0) c.in_ok-item.ensures), omega (arith, c.in_ok-item.ensures.place))

pub declarators::suffixes-returns : goal.declarators::suffixes-returns
declarators::suffixes-returns t c = suffixes_done (map shown c.args.words.now) (map suffix_tree c.loop-alloc.items.items) (isnt_so c.suffix_ahead.ensures c.loop-alloc-test.false) c.loop-alloc.invariant.0

pub declarators::suffix-returns-in_err-first : goal.declarators::suffix-returns-in_err-first
declarators::suffix-returns-in_err-first t c = let p = err_from_is_err_and c.from_residual.result c.from_residual.ensures.1 in rw (p.1, p.2, c.in_err-first.ensures.0) (no_suffix_here (map shown c.args.words.now) c.in_default.ensures c.in_err-first.ensures.1)

pub declarators::suffix-returns-in_err-parameters : goal.declarators::suffix-returns-in_err-parameters
declarators::suffix-returns-in_err-parameters t c = let p = err_from_is_err_and c.from_residual-in_err-parameters.result c.from_residual-in_err-parameters.ensures.1 in rw (p.1, p.2) (stopped (map shown c.args.words.now) (λ n h. refuses_parameters (map shown c.args.words.now) (function_start (map shown c.args.words.now) c.in_ok-first.ensures) h) _ c.in_err-parameters.ensures)

pub declarators::suffix-returns-in_default : goal.declarators::suffix-returns-in_default
declarators::suffix-returns-in_default t c = rw c.function.ensures (reads_function (map shown c.args.words.now) (function_start (map shown c.args.words.now) c.in_ok-first.ensures) c.in_ok-parameters.ensures)

pub declarators::suffix-returns-in-Some-after_mark : goal.declarators::suffix-returns-in-Some-after_mark
declarators::suffix-returns-in-Some-after_mark t c = rw c.array.ensures (reads_unsized (map shown c.args.words.now) c.in-Some-after_mark.ensures (array_start (map shown c.args.words.now) c.in-Some.ensures))

pub declarators::suffix-returns-in_err-length : goal.declarators::suffix-returns-in_err-length
declarators::suffix-returns-in_err-length t c = let p = err_from_is_err_and c.from_residual-in_err-length.result c.from_residual-in_err-length.ensures.1 in rw (p.1, p.2) (stopped (map shown c.args.words.now) (λ n h. refuses_length (map shown c.args.words.now) (sl.sized_start (map shown c.args.words.now) c.in_default-after_mark.ensures (array_start (map shown c.args.words.now) c.in-Some.ensures)) h) _ c.in_err-length.ensures)

pub declarators::suffix-returns-in_err-end : goal.declarators::suffix-returns-in_err-end
declarators::suffix-returns-in_err-end t c = let p = err_from_is_err_and c.from_residual-in_err-end.result c.from_residual-in_err-end.ensures.1 in rw (p.1, p.2, c.in_err-end.ensures.0) (misses_length_end (map shown c.args.words.now) (sl.sized_start (map shown c.args.words.now) c.in_default-after_mark.ensures (array_start (map shown c.args.words.now) c.in-Some.ensures)) c.in_ok-length.ensures c.in_err-end.ensures.1)

pub declarators::suffix-returns : goal.declarators::suffix-returns
declarators::suffix-returns t c = rw c.in_ok-tree.ensures (reads_sized_array (map shown c.args.words.now) (sl.sized_start (map shown c.args.words.now) c.in_default-after_mark.ensures (array_start (map shown c.args.words.now) c.in-Some.ensures)) c.in_ok-length.ensures c.in_ok-end.ensures)
