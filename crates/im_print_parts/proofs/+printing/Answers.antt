use Rattle.std.proofs.Common.{rules, arith, refl, sym, ap, ◌∙◌, ◌∷◌}
use Rattle.im_tok.specs.declared.punctuator.Punctuator.TheVariants as punctuator
use Rattle.im_word.specs.Words.{mark}
use Rattle.im_ctree.specs.Tree as tree
use Rattle.im_ctree.specs.Shape.{expression_of, specifier_of, declarator_of, type_name_of}
use Rattle.im_ctree.specs.declared.declarator.Declarator.{out-Declarator}
use Rattle.im_ctree_parts.specs.Lists.{expression_in, list_from, maybe_from, with_suffix, declarators_from}
use Rattle.im_ctree_parts.proofs.Shapes.{call_tree, declarator_shape, type_name_shape}
use Rattle.im_print_relation.specs.Printed as printed
use Rattle.im_print_parts.specs.Output.{known}
use Rattle.im_print_parts.specs.Parts as parts
use Rattle.im_print_parts.proofs.Writing.{writes_append, writes_first, writes_same, writes_behind, each_step, row_step}
use Rattle.im_print_parts.proofs.Writing as writing
use Rattle.im_print_parts.proofs.Links.{link_down, link_up, none_deeper_more, none_deeper_less}
use Rattle.im_print_parts.proofs.Rows.{writes_items, parenthesized, separated_step, arguments_separated, parameters_separated, enumerators_separated, struct_words, enum_words, array_words, function_words, declarators_first, suffixes_each, stars_each}
use Rattle.im_print_parts.proofs.+printing.Goals as goal

pub expressions::put_member-returns : goal.expressions::put_member-returns
expressions::put_member-returns t c = writes_append c.in_ok-put_at.ensures (writes_first c.in_ok-put_mark.ensures c.in_ok-put_name.ensures)

pub expressions::put_behind-returns : goal.expressions::put_behind-returns
expressions::put_behind-returns t c = writes_append c.in_ok-put_at.ensures c.in_ok-put_mark.ensures

pub expressions::put_prefixed-returns : goal.expressions::put_prefixed-returns
expressions::put_prefixed-returns t c = writes_first c.in_ok-put_mark.ensures c.in_ok-put_at.ensures

pub expressions::put_size-returns : goal.expressions::put_size-returns
expressions::put_size-returns t c = writes_first c.in_ok-put_keyword.ensures c.in_ok-put_at.ensures

pub declarators::put_in_parentheses-returns : goal.declarators::put_in_parentheses-returns
declarators::put_in_parentheses-returns t c = writes_first c.in_ok-put_mark.ensures (writes_append c.in_ok-put_declarator.ensures c.in_ok-put_mark-2.ensures)

pub declarators::put_array-returns : goal.declarators::put_array-returns
declarators::put_array-returns t c = writes_first c.in_ok-put_mark.ensures (writes_append c.in_ok-put_length.ensures c.in_ok-put_mark-2.ensures)

pub declarators::put_function-returns : goal.declarators::put_function-returns
declarators::put_function-returns t c =
    let parameters = writes_same (sym (parameters_separated (known c.args.names.now) c.args.parameters.now)) c.in_ok-put_parameters.ensures in
    writes_first c.in_ok-put_mark.ensures (writes_append parameters c.in_ok-put_mark-2.ensures)

pub declarators::put_parameter-returns : goal.declarators::put_parameter-returns
declarators::put_parameter-returns t c = writes_append (rw c.deref.ensures.value at c.in_ok-put_specifiers.ensures) c.in_ok-put_maybe_declarator.ensures

pub declarators::put_type_name-returns : goal.declarators::put_type_name-returns
declarators::put_type_name-returns t c = writes_same (ap (printed.type_name (known c.args.names.now)) (sym (type_name_shape c.args.name.now))) (writes_append (rw c.deref.ensures.value at c.in_ok-put_specifiers.ensures) c.in_ok-put_maybe_declarator.ensures)

pub declarators::put_declarator-returns : goal.declarators::put_declarator-returns
declarators::put_declarator-returns t c =
    let T = known c.args.names.now in
    let r = out-Declarator c.args.declarator.now in
    let stars = writes_same (sym (stars_each r.stars.items)) (rw c.deref.ensures.value at c.in_ok-put_stars.ensures) in
    let suffixes = writes_same (sym (suffixes_each T r.suffixes.items)) (rw c.deref-2.ensures.value at c.in_ok-put_suffixes.ensures) in
    writes_same (ap (printed.declarator T) (sym (declarator_shape c.args.declarator.now))) (writes_append stars (writes_append c.in_ok-put_core.ensures suffixes))

pub specifiers::put_struct-returns : goal.specifiers::put_struct-returns
specifiers::put_struct-returns t c = writes_append c.in_ok-put_tag.ensures (writes_first c.in_ok-put_mark.ensures (writes_append c.in_ok-put_members.ensures c.in_ok-put_mark-2.ensures))

pub specifiers::put_enum-returns : goal.specifiers::put_enum-returns
specifiers::put_enum-returns t c =
    let enumerators = writes_same (sym (enumerators_separated (known c.args.names.now) c.args.enumerators.now)) c.in_ok-put_enumerators.ensures in
    writes_append c.in_ok-put_tag.ensures (writes_first c.in_ok-put_mark.ensures (writes_append enumerators c.in_ok-put_mark-2.ensures))

pub specifiers::put_member_line-returns : goal.specifiers::put_member_line-returns
specifiers::put_member_line-returns t c =
    let typed = rw c.deref-2.ensures.value at c.has_type-typed.ensures in
    let specifiers = rw c.deref.ensures.value at c.in_ok-put_specifiers.ensures in
    let declarators = rw (c.deref-3.ensures.value, typed) at c.in_ok-put_declarators.ensures in
    writes_append specifiers (writes_append declarators c.in_ok-put_mark.ensures)

pub specifiers::put_enumerator-returns : goal.specifiers::put_enumerator-returns
specifiers::put_enumerator-returns t c = writes_first (rw c.deref.ensures.value at c.in_ok-put_name.ensures) c.in_ok-put_value.ensures

pub declarators::put_suffixes-loop-suffix-preserved : goal.declarators::put_suffixes-loop-suffix-preserved
declarators::put_suffixes-loop-suffix-preserved t c = each_step (parts.suffix_words (known c.args.names.now)) c.args.suffixes.now c.loop-suffix.suffix-index c.suffix-item.result c.in_ok-put_suffix.ensures c.loop-suffix-test.true c.suffix-item.is ∙ c.loop-suffix.invariant

pub specifiers::put_members-loop-member-preserved : goal.specifiers::put_members-loop-member-preserved
specifiers::put_members-loop-member-preserved t c = each_step (parts.member_words (known c.args.names.now)) c.args.members.now c.loop-member.member-index c.member-item.result c.in_ok-put_member_line.ensures c.loop-member-test.true c.member-item.is ∙ c.loop-member.invariant

pub specifiers::put_next_declarators-loop-declarator-preserved : goal.specifiers::put_next_declarators-loop-declarator-preserved
specifiers::put_next_declarators-loop-declarator-preserved t c = each_step (parts.next_declarator (known c.args.names.now)) c.args.declarators.now c.loop-declarator.declarator-index c.declarator-item.result (writes_first c.in_ok-put_mark.ensures c.in_ok-put_declarator.ensures) c.loop-declarator-test.true c.declarator-item.is ∙ c.loop-declarator.invariant

pub specifiers::put_specifiers-loop-specifier-preserved : goal.specifiers::put_specifiers-loop-specifier-preserved
specifiers::put_specifiers-loop-specifier-preserved t c = row_step (λ xs. printed.specifier_list (known c.args.names.now) (list_from xs)) (parts.specifier_words (known c.args.names.now)) (λ x xs. refl) c.args.specifiers.now c.loop-specifier.specifier-index c.specifier-item.result c.in_ok-put_specifier.ensures c.loop-specifier-test.true c.specifier-item.is ∙ c.loop-specifier.invariant

pub specifiers::put_specifier-returns-in-Struct : goal.specifiers::put_specifier-returns-in-Struct
specifiers::put_specifier-returns-in-Struct t c =
    let same = ap (λ k. printed.specifier (known c.args.names.now) (specifier_of c.args.specifier.now.at k)) c.in-Struct.is in
    let made = struct_words (known c.args.names.now) c.args.specifier.now.at c.in-Struct.tag c.in-Struct.members in
    search (rules, same, made)

pub specifiers::put_specifier-returns-in-Enum : goal.specifiers::put_specifier-returns-in-Enum
specifiers::put_specifier-returns-in-Enum t c =
    let same = ap (λ k. printed.specifier (known c.args.names.now) (specifier_of c.args.specifier.now.at k)) c.in-Enum.is in
    let made = enum_words (known c.args.names.now) c.args.specifier.now.at c.in-Enum.tag c.in-Enum.enumerators in
    search (rules, same, made)

pub declarators::put_suffix-returns-in-Array : goal.declarators::put_suffix-returns-in-Array
declarators::put_suffix-returns-in-Array t c =
    let same = ap (λ k. printed.suffixes (known c.args.names.now) (with_suffix c.args.suffix.now.at k tree.no_suffixes)) c.in-Array.is in
    let made = array_words (known c.args.names.now) c.args.suffix.now.at c.in-Array.length in
    search (rules, same, made)

pub declarators::put_suffix-returns-in-Function : goal.declarators::put_suffix-returns-in-Function
declarators::put_suffix-returns-in-Function t c =
    let same = ap (λ k. printed.suffixes (known c.args.names.now) (with_suffix c.args.suffix.now.at k tree.no_suffixes)) c.in-Function.is in
    let made = function_words (known c.args.names.now) c.args.suffix.now.at c.in-Function.parameters in
    search (rules, same, made)

pub expressions::put_at-returns-then-binding-level : goal.expressions::put_at-returns-then-binding-level
expressions::put_at-returns-then-binding-level t c = parenthesized c.args.level (expression_in c.args.e.now) _ (omega (arith, c.binding.ensures, c.if-binding-level.true)) (writes_first c.in_ok-put_mark.ensures (writes_append c.in_ok-put_expression.ensures c.in_ok-put_mark-2.ensures))

pub expressions::put_arguments-loop-argument-preserved : goal.expressions::put_arguments-loop-argument-preserved
expressions::put_arguments-loop-argument-preserved t c = separated_step (parts.argument_words (known c.args.names.now)) c.loop-argument.behind c.args.arguments.now c.loop-argument.argument-index c.argument-item.result (writes_append c.in_ok-put_comma_if.ensures c.in_ok-put_at.ensures) c.loop-argument-test.true c.argument-item.is ∙ c.loop-argument.invariant

pub declarators::put_parameters-loop-parameter-preserved : goal.declarators::put_parameters-loop-parameter-preserved
declarators::put_parameters-loop-parameter-preserved t c = separated_step (parts.parameter_words (known c.args.names.now)) c.loop-parameter.behind c.args.parameters.now c.loop-parameter.parameter-index c.parameter-item.result (writes_append c.in_ok-put_comma_if.ensures c.in_ok-put_parameter.ensures) c.loop-parameter-test.true c.parameter-item.is ∙ c.loop-parameter.invariant

pub specifiers::put_enumerators-loop-enumerator-preserved : goal.specifiers::put_enumerators-loop-enumerator-preserved
specifiers::put_enumerators-loop-enumerator-preserved t c = separated_step (parts.enumerator_words (known c.args.names.now)) c.loop-enumerator.behind c.args.enumerators.now c.loop-enumerator.enumerator-index c.enumerator-item.result (writes_append c.in_ok-put_comma_if.ensures c.in_ok-put_enumerator.ensures) c.loop-enumerator-test.true c.enumerator-item.is ∙ c.loop-enumerator.invariant

pub expressions::put_enclosed-returns : goal.expressions::put_enclosed-returns
expressions::put_enclosed-returns t c = writes_first c.in_ok-put_mark.ensures (writes_append c.in_ok-put_expression.ensures c.in_ok-put_mark-2.ensures)

pub expressions::put_closed_type_name-returns : goal.expressions::put_closed_type_name-returns
expressions::put_closed_type_name-returns t c = writes_first c.in_ok-put_mark.ensures (writes_append c.in_ok-put_type_name.ensures c.in_ok-put_mark-2.ensures)

pub expressions::put_size_of_type-returns : goal.expressions::put_size_of_type-returns
expressions::put_size_of_type-returns t c = writes_first c.in_ok-put_keyword.ensures c.in_ok-put_closed_type_name.ensures

pub expressions::put_closed_arguments-returns : goal.expressions::put_closed_arguments-returns
expressions::put_closed_arguments-returns t c =
    let arguments = writes_same (sym (arguments_separated (known c.args.names.now) c.args.arguments.now)) c.in_ok-put_arguments.ensures in
    writes_first c.in_ok-put_mark.ensures (writes_append arguments c.in_ok-put_mark-2.ensures)

pub specifiers::put_value-returns-in_ok-put_at-in-Some : goal.specifiers::put_value-returns-in_ok-put_at-in-Some
specifiers::put_value-returns-in_ok-put_at-in-Some t c =
    writes_same (sym (ap (λ v. printed.enumerator_value (known c.args.names.now) (maybe_from v)) c.in-Some.is)) (writes_first c.in_ok-put_mark-in-Some.ensures (rw c.deref.ensures at c.in_ok-put_at-in-Some.ensures))

pub specifiers::put_declarators-returns-in_ok-put_next_declarators-in-len1-up : goal.specifiers::put_declarators-returns-in_ok-put_next_declarators-in-len1-up
specifiers::put_declarators-returns-in_ok-put_next_declarators-in-len1-up t c =
    let T = known c.args.names.now in
    writes_items (λ xs. printed.declarators T c.args.typed (declarators_from xs)) (λ x. printed.behind_specifiers T c.args.typed (declarator_of x) (parts.declarator_words T x)) (parts.next_declarator T) (declarators_first T c.args.typed) c.args.declarators.now c.first-item.result c.in-len1-up.len_at_least c.first-item.is c.in_ok-put_behind_specifiers-in-len1-up.ensures c.in_ok-put_next_declarators-in-len1-up.ensures

pub expressions::put_form-returns-in_ok-put_prefixed-in-Binary : goal.expressions::put_form-returns-in_ok-put_prefixed-in-Binary
expressions::put_form-returns-in_ok-put_prefixed-in-Binary t c =
    let same = ap (λ k. printed.expression (known c.args.names.now) (expression_of c.args.e.now.at k)) c.in-Binary.is in
    writes_same (sym same) (writes_append (rw (c.deref-in-Binary.ensures, c.left_level.ensures) at c.in_ok-put_at-in-Binary.ensures) (rw (c.deref-in-Binary-2.ensures, c.operator_mark.ensures, c.right_level.ensures) at c.in_ok-put_prefixed-in-Binary.ensures))

pub expressions::put_form-returns-in_ok-put_at-in-Conditional-2 : goal.expressions::put_form-returns-in_ok-put_at-in-Conditional-2
expressions::put_form-returns-in_ok-put_at-in-Conditional-2 t c =
    let same = ap (λ k. printed.expression (known c.args.names.now) (expression_of c.args.e.now.at k)) c.in-Conditional.is in
    writes_same (sym same) (writes_append (rw c.deref-in-Conditional.ensures at c.in_ok-put_at-in-Conditional.ensures) (writes_behind (mark punctuator.Question ∷ printed.expression (known c.args.names.now) (expression_in c.in-Conditional.first.value)) (mark punctuator.Colon) (rw c.deref-in-Conditional-2.ensures at c.in_ok-put_enclosed-in-Conditional.ensures) (rw c.deref-in-Conditional-3.ensures at c.in_ok-put_at-in-Conditional-2.ensures)))

pub expressions::put_form-returns-in_ok-put_prefixed-in-Assign : goal.expressions::put_form-returns-in_ok-put_prefixed-in-Assign
expressions::put_form-returns-in_ok-put_prefixed-in-Assign t c =
    let same = ap (λ k. printed.expression (known c.args.names.now) (expression_of c.args.e.now.at k)) c.in-Assign.is in
    writes_same (sym same) (writes_append (rw c.deref-in-Assign.ensures at c.in_ok-put_at-in-Assign.ensures) (rw (c.deref-in-Assign-2.ensures, c.assign_mark.ensures) at c.in_ok-put_prefixed-in-Assign.ensures))

pub expressions::put_before_first-returns-in_ok-put_parenthesis-in-Cast : goal.expressions::put_before_first-returns-in_ok-put_parenthesis-in-Cast
expressions::put_before_first-returns-in_ok-put_parenthesis-in-Cast t c =
    let same = ap (λ k. parts.before_first (known c.args.names.now) (expression_of c.args.e.now.at k)) c.in-Cast.is in
    writes_same (sym same) (writes_behind (mark punctuator.OpenParen ∷ printed.type_name (known c.args.names.now) (type_name_of c.in-Cast.name.value)) (mark punctuator.CloseParen) (rw c.deref-in-Cast.ensures at c.in_ok-put_closed_type_name-in-Cast.ensures) (rw c.deref-in-Cast-2.ensures at c.in_ok-put_parenthesis-in-Cast.ensures))

pub expressions::put_behind_first-returns-in_ok-put_enclosed-in-Index : goal.expressions::put_behind_first-returns-in_ok-put_enclosed-in-Index
expressions::put_behind_first-returns-in_ok-put_enclosed-in-Index t c =
    let same = ap (λ k. parts.behind_first (known c.args.names.now) (expression_of c.args.e.now.at k)) c.in-Index.is in
    writes_same (sym same) (writes_append (rw c.deref.ensures at c.in_ok-put_parenthesis-in-Index.ensures) (rw c.deref-in-Index.ensures at c.in_ok-put_enclosed-in-Index.ensures))

pub expressions::put_behind_first-returns-in_ok-put_closed_arguments-in-Call : goal.expressions::put_behind_first-returns-in_ok-put_closed_arguments-in-Call
expressions::put_behind_first-returns-in_ok-put_closed_arguments-in-Call t c =
    let same = ap (λ k. parts.behind_first (known c.args.names.now) (expression_of c.args.e.now.at k)) c.in-Call.is in
    let made = ap (parts.behind_first (known c.args.names.now)) (call_tree c.args.e.now.at c.in-Call.callee c.in-Call.arguments) in
    writes_same (sym (same ∙ made)) (writes_append (rw c.deref-in-Call.ensures at c.in_ok-put_parenthesis-in-Call.ensures) (rw c.deref-in-Call-2.ensures.value at c.in_ok-put_closed_arguments-in-Call.ensures))

pub expressions::put_expression-loop-first-preserved : goal.expressions::put_expression-loop-first-preserved
expressions::put_expression-loop-first-preserved t c =
    let written = link_down (known c.args.names.now) _ _ _ (expression_in c.in-Some.first.now) c.in_ok-push.ensures.items (c.in-Some.ensures.chain (known c.args.names.now)) c.in_ok-put_before_first.ensures ∙ c.loop-first.invariant.0 in
    (written, omega (arith, c.in-Some.ensures.below, c.loop-first.invariant.1), none_deeper_more _ _ _ _ c.in_ok-push.ensures.items c.loop-first.invariant.2 c.loop-first.invariant.1)

pub expressions::put_expression-loop-link-init : goal.expressions::put_expression-loop-link-init
expressions::put_expression-loop-link-init t c = (writing.written _ c.in_ok-put_form.ensures ∙ c.loop-first.invariant.0, c.loop-first.invariant.2)

pub expressions::put_expression-loop-link-preserved : goal.expressions::put_expression-loop-link-preserved
expressions::put_expression-loop-link-preserved t c =
    (link_up (known c.args.names.now) _ _ _ c.in-Some-pop.ensures.items c.in_ok-put_behind_first.ensures ∙ c.loop-link.invariant.0, (none_deeper_less _ _ _ _ c.in-Some-pop.ensures.items c.loop-link.invariant.1).1)

pub expressions::put_expression-put_behind_first-requires : goal.expressions::put_expression-put_behind_first-requires
expressions::put_expression-put_behind_first-requires t c =
    let below = (none_deeper_less _ _ _ _ c.in-Some-pop.ensures.items c.loop-link.invariant.1).0 in
    omega (arith, below)
