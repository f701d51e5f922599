use Rattle.std.proofs.Common.{arith, ◌≡◌, ◌+◌, true, refl, sym, ap, subst, ◌∙◌}
use Rattle.std.proofs.lemmas.Result.{err_from_is_err_and}
use Rattle.std.proofs.lemmas.List.{nil_from_length}
use Rattle.im_ctree.specs.declared.declarator.Declarator.{out-Declarator}
use Rattle.im_ctree.specs.declared.declarator.SuffixKind as xk
use Rattle.im_ctree.specs.Shape.{expression_of}
use Rattle.im_check_expression_parts.specs.im_rules.Strings.{strings_in}
use Rattle.im_check_expression_parts.specs.im_rules.Breaks as b
use Rattle.im_check_expression_parts.specs.im_rules.Declared.{with_stars, called}
use Rattle.im_ctree_parts.specs.Lists.{expression_in, expressions_from, stars_in, with_suffix}
use Rattle.im_check_type_specifiers.specs.Specified.{qualified_of}
use Rattle.im_ctree_parts.proofs.Shapes.{call_tree, type_name_shape, declarator_shape, parameter_shape, function_suffix}
use Rattle.im_check_declarators.proofs.Steps.{array_tree}
use Rattle.im_check_expression_parts.specs.im_rules.Demands.{callee_of, is_function_meant}
use Rattle.im_check_scopes.specs.Shape.{scopes_of}
use Rattle.im_check_place.specs.declared.place.Place.{Place}
use Rattle.im_check_place.specs.Contexts.{context_of}
use Rattle.im_check_expression_parts.proofs.Places.{at_string}
use Rattle.im_check_expression_parts.proofs.Made.{fault_of}
use Rattle.im_check_expression_parts.proofs.Arguments.{next, last, terms_none, terms_more, terms_fault, terms_all}
use Rattle.im_check_expression_parts.proofs.SuffixesBehind.{open_given, length_given, function_given, given_none, given_more, given_fault, given_all}
use Rattle.im_check_expression_parts.proofs.ParametersBehind.{parameters_none, parameters_more, parameters_fault, parameters_all, stays_inside}
use Rattle.im_check_expression_parts.proofs.Declared.{name_unspecified, name_undeclared, name_done, none_declared, some_declared, absent_declared, name_declared, inner_declared, stars_fault, suffixes_fault, suffixed_fault, core_fault, suffixed_before, declarator_done, parameters_done, parameters_broken, parameter_unspecified, parameter_undeclared, parameter_made, inside_here}
use Rattle.im_check_expression_parts.proofs.Forms.{name, number, character, member, arrow, post_step, pre_step, unary, size, type_size, index, binary, assign, comma, conditional, second_fault, third_fault, call, call_fault, arguments_fault, uncalled}
use Rattle.im_check_expressions.specs.Links.{IsLinked}
use Rattle.im_check_expressions.proofs.Chains.{named_callee, unnamed_callee, read_first, token_is, cast_linked, named_none, link_down, link_up, outer_fault, whole_typed}
use Rattle.im_check_expressions.proofs.+walk.Goals as goal

pub expressions::ending-returns-in-Identifier : goal.expressions::ending-returns-in-Identifier
expressions::ending-returns-in-Identifier t c =
    rw c.in-Identifier.is (name c.args.place.now _ _ _ (rw c.deref.ensures.value at (c.name_term.ensures c.args.place.now.structs c.args.place.now.next_string)))

pub expressions::ending-returns-in-Number : goal.expressions::ending-returns-in-Number
expressions::ending-returns-in-Number t c =
    rw c.in-Number.is (number c.args.place.now _ _ _ (c.number_term.ensures c.args.place.now.structs))

pub expressions::ending-returns-in-Character : goal.expressions::ending-returns-in-Character
expressions::ending-returns-in-Character t c =
    rw c.in-Character.is (character c.args.place.now _ _ _ (c.character_term.ensures c.args.place.now.structs))

pub expressions::ending-returns-in-Text : goal.expressions::ending-returns-in-Text
expressions::ending-returns-in-Text t c =
    rw c.in-Text.is (rw c.deref-in-Text.ensures.value at (c.text.ensures c.args.e.now.at))

pub operands::call-returns-in_err-xs : goal.operands::call-returns-in_err-xs
operands::call-returns-in_err-xs t c =
    let p = err_from_is_err_and c.from_residual.result c.from_residual.ensures.1 in
    let tree = ap (expression_of c.args.e.now.at) c.in-Call.is ∙ call_tree c.args.e.now.at c.in-Call.callee c.in-Call.arguments in
    rw (p.1, p.2, tree) (call_fault c.args.place.now _ _ _ _ (named_callee (scopes_of c.args.place.now.scope) _ _ _ _ tree c.requires.ends) (rw c.deref.ensures.value at c.in_err-xs.ensures))

pub operands::call-called-requires : goal.operands::call-called-requires
operands::call-called-requires t c =
    let f = expression_in c.in-Call.callee.value in
    let tree = ap (expression_of c.args.e.now.at) c.in-Call.is ∙ call_tree c.args.e.now.at c.in-Call.callee c.in-Call.arguments in
    let named = named_callee (scopes_of c.args.place.now.scope) _ _ _ _ tree c.requires.ends in
    rw c.deref-2.ensures (subst (λ (p : Place). is_function_meant (callee_of (scopes_of p.scope) f) ≡ true) (sym c.in_ok-xs.ensures.1) named)

pub operands::call-returns : goal.operands::call-returns
operands::call-returns t c =
    let tree = ap (expression_of c.args.e.now.at) c.in-Call.is ∙ call_tree c.args.e.now.at c.in-Call.callee c.in-Call.arguments in
    rw tree (call c.args.place.now _ _ _ c.in_ok-xs.xs.items c.called.result (named_callee (scopes_of c.args.place.now.scope) _ _ _ _ tree c.requires.ends) (rw c.deref.ensures.value at c.in_ok-xs.ensures) (rw c.deref-2.ensures at c.called.ensures))

pub operands::unary-returns-in_err-x-in-PreStep : goal.operands::unary-returns-in_err-x-in-PreStep
operands::unary-returns-in_err-x-in-PreStep t c =
    let p = err_from_is_err_and c.from_residual.result c.from_residual.ensures.1 in
    rw (p.1, p.2, c.in-PreStep.is) (fault_of b.pre_stepped _ (rw c.deref.ensures at c.in_err-x-in-PreStep.ensures))

pub operands::unary-returns-in_ok-x-in-PreStep : goal.operands::unary-returns-in_ok-x-in-PreStep
operands::unary-returns-in_ok-x-in-PreStep t c =
    rw c.in-PreStep.is (pre_step c.args.place.now _ _ c.in_ok-x-in-PreStep.x c.step_term.result (rw c.deref.ensures at c.in_ok-x-in-PreStep.ensures) c.table.ensures c.step_term.ensures)

pub operands::unary-returns-in_err-x-in-Unary : goal.operands::unary-returns-in_err-x-in-Unary
operands::unary-returns-in_err-x-in-Unary t c =
    let p = err_from_is_err_and c.from_residual-in_err-x-in-Unary.result c.from_residual-in_err-x-in-Unary.ensures.1 in
    rw (p.1, p.2, c.in-Unary.is) (fault_of b.operand _ (rw c.deref-in-Unary.ensures at c.in_err-x-in-Unary.ensures))

pub operands::unary-returns-in_ok-x-in-Unary : goal.operands::unary-returns-in_ok-x-in-Unary
operands::unary-returns-in_ok-x-in-Unary t c =
    rw c.in-Unary.is (unary c.args.place.now _ _ c.in_ok-x-in-Unary.x c.unary_term.result (rw c.deref-in-Unary.ensures at c.in_ok-x-in-Unary.ensures) c.table-in-Unary.ensures c.unary_term.ensures)

pub operands::unary-returns-in_err-x-in-SizeOfExpression : goal.operands::unary-returns-in_err-x-in-SizeOfExpression
operands::unary-returns-in_err-x-in-SizeOfExpression t c =
    let p = err_from_is_err_and c.from_residual-in_err-x-in-SizeOfExpression.result c.from_residual-in_err-x-in-SizeOfExpression.ensures.1 in
    rw (p.1, p.2, c.in-SizeOfExpression.is) (fault_of b.measured_expression _ (rw c.deref-in-SizeOfExpression.ensures at c.in_err-x-in-SizeOfExpression.ensures))

pub operands::unary-returns-in_ok-x-in-SizeOfExpression : goal.operands::unary-returns-in_ok-x-in-SizeOfExpression
operands::unary-returns-in_ok-x-in-SizeOfExpression t c =
    rw c.in-SizeOfExpression.is (size c.args.place.now _ c.in_ok-x-in-SizeOfExpression.x c.size_term.result (rw c.deref-in-SizeOfExpression.ensures at c.in_ok-x-in-SizeOfExpression.ensures) c.table-in-SizeOfExpression.ensures (rw (c.type_in.ensures c.table-in-SizeOfExpression.result.now) at c.size_term.ensures))

pub operands::unary-returns-in_err-q-in-SizeOfType : goal.operands::unary-returns-in_err-q-in-SizeOfType
operands::unary-returns-in_err-q-in-SizeOfType t c =
    let p = err_from_is_err_and c.from_residual-in_err-q-in-SizeOfType.result c.from_residual-in_err-q-in-SizeOfType.ensures.1 in
    rw (p.1, p.2, c.in-SizeOfType.is) (fault_of b.measured_type _ (rw c.deref-in-SizeOfType.ensures at c.in_err-q-in-SizeOfType.ensures))

pub operands::unary-returns-in_ok-q-in-SizeOfType : goal.operands::unary-returns-in_ok-q-in-SizeOfType
operands::unary-returns-in_ok-q-in-SizeOfType t c =
    rw c.in-SizeOfType.is (type_size c.args.place.now _ c.in_ok-q-in-SizeOfType.q c.size_term-in-SizeOfType.result (rw c.deref-in-SizeOfType.ensures at c.in_ok-q-in-SizeOfType.ensures) c.table-in-SizeOfType.ensures c.size_term-in-SizeOfType.ensures)

pub operands::operation-returns-in_err-x-in-Binary : goal.operands::operation-returns-in_err-x-in-Binary
operands::operation-returns-in_err-x-in-Binary t c =
    let p = err_from_is_err_and c.from_residual.result c.from_residual.ensures.1 in
    rw (p.1, p.2, c.in-Binary.is) (fault_of b.left_operand _ (rw c.deref.ensures at c.in_err-x-in-Binary.ensures))

pub operands::operation-returns-in_err-y-in-Binary : goal.operands::operation-returns-in_err-y-in-Binary
operands::operation-returns-in_err-y-in-Binary t c =
    let p = err_from_is_err_and c.from_residual-in_err-y-in-Binary.result c.from_residual-in_err-y-in-Binary.ensures.1 in
    rw (p.1, p.2, c.in-Binary.is) (second_fault c.args.place.now (strings_in (expression_in c.in-Binary.left.value)) b.right_operand (rw c.deref.ensures at c.in_ok-x-in-Binary.ensures).1 _ (rw c.deref-in-Binary.ensures at c.in_err-y-in-Binary.ensures))

pub operands::operation-returns-in_ok-y-in-Binary : goal.operands::operation-returns-in_ok-y-in-Binary
operands::operation-returns-in_ok-y-in-Binary t c =
    rw c.in-Binary.is (binary c.args.place.now _ _ c.in_ok-x-in-Binary.x c.in_ok-y-in-Binary.y c.binary_term.result (rw c.deref.ensures at c.in_ok-x-in-Binary.ensures) (rw c.deref-in-Binary.ensures at c.in_ok-y-in-Binary.ensures) c.table.ensures c.binary_term.ensures)

pub operands::operation-returns-in_err-w-in-Conditional : goal.operands::operation-returns-in_err-w-in-Conditional
operands::operation-returns-in_err-w-in-Conditional t c =
    let p = err_from_is_err_and c.from_residual-in_err-w-in-Conditional.result c.from_residual-in_err-w-in-Conditional.ensures.1 in
    rw (p.1, p.2, c.in-Conditional.is) (fault_of b.condition _ (rw c.deref-in-Conditional.ensures at c.in_err-w-in-Conditional.ensures))

pub operands::operation-returns-in_err-x-in-Conditional : goal.operands::operation-returns-in_err-x-in-Conditional
operands::operation-returns-in_err-x-in-Conditional t c =
    let p = err_from_is_err_and c.from_residual-in_err-x-in-Conditional.result c.from_residual-in_err-x-in-Conditional.ensures.1 in
    rw (p.1, p.2, c.in-Conditional.is) (second_fault c.args.place.now (strings_in (expression_in c.in-Conditional.test.value)) b.first_arm (rw c.deref-in-Conditional.ensures at c.in_ok-w-in-Conditional.ensures).1 _ (rw c.deref-in-Conditional-2.ensures at c.in_err-x-in-Conditional.ensures))

pub operands::operation-returns-in_err-y-in-Conditional : goal.operands::operation-returns-in_err-y-in-Conditional
operands::operation-returns-in_err-y-in-Conditional t c =
    let p = err_from_is_err_and c.from_residual-in_err-y-in-Conditional.result c.from_residual-in_err-y-in-Conditional.ensures.1 in
    rw (p.1, p.2, c.in-Conditional.is) (third_fault c.args.place.now (strings_in (expression_in c.in-Conditional.test.value)) (strings_in (expression_in c.in-Conditional.first.value)) b.second_arm (rw c.deref-in-Conditional.ensures at c.in_ok-w-in-Conditional.ensures).1 (rw c.deref-in-Conditional-2.ensures at c.in_ok-x-in-Conditional.ensures).1 _ (rw c.deref-in-Conditional-3.ensures at c.in_err-y-in-Conditional.ensures))

pub operands::operation-returns-in_ok-y-in-Conditional : goal.operands::operation-returns-in_ok-y-in-Conditional
operands::operation-returns-in_ok-y-in-Conditional t c =
    rw c.in-Conditional.is (conditional c.args.place.now _ c.in_ok-w-in-Conditional.w c.in_ok-x-in-Conditional.x c.in_ok-y-in-Conditional.y c.conditional_term.result (rw c.deref-in-Conditional.ensures at c.in_ok-w-in-Conditional.ensures) (rw c.deref-in-Conditional-2.ensures at c.in_ok-x-in-Conditional.ensures) (rw c.deref-in-Conditional-3.ensures at c.in_ok-y-in-Conditional.ensures) c.table-in-Conditional.ensures c.conditional_term.ensures)

pub operands::operation-returns-in_err-x-in-Assign : goal.operands::operation-returns-in_err-x-in-Assign
operands::operation-returns-in_err-x-in-Assign t c =
    let p = err_from_is_err_and c.from_residual-in_err-x-in-Assign.result c.from_residual-in_err-x-in-Assign.ensures.1 in
    rw (p.1, p.2, c.in-Assign.is) (fault_of b.left_side _ (rw c.deref-in-Assign.ensures at c.in_err-x-in-Assign.ensures))

pub operands::operation-returns-in_err-y-in-Assign : goal.operands::operation-returns-in_err-y-in-Assign
operands::operation-returns-in_err-y-in-Assign t c =
    let p = err_from_is_err_and c.from_residual-in_err-y-in-Assign.result c.from_residual-in_err-y-in-Assign.ensures.1 in
    rw (p.1, p.2, c.in-Assign.is) (second_fault c.args.place.now (strings_in (expression_in c.in-Assign.left.value)) b.right_side (rw c.deref-in-Assign.ensures at c.in_ok-x-in-Assign.ensures).1 _ (rw c.deref-in-Assign-2.ensures at c.in_err-y-in-Assign.ensures))

pub operands::operation-returns-in_ok-y-in-Assign : goal.operands::operation-returns-in_ok-y-in-Assign
operands::operation-returns-in_ok-y-in-Assign t c =
    rw c.in-Assign.is (assign c.args.place.now _ _ c.in_ok-x-in-Assign.x c.in_ok-y-in-Assign.y c.assign_term.result (rw c.deref-in-Assign.ensures at c.in_ok-x-in-Assign.ensures) (rw c.deref-in-Assign-2.ensures at c.in_ok-y-in-Assign.ensures) c.table-in-Assign.ensures c.assign_term.ensures)

pub links::linked-continued-requires : goal.links::linked-continued-requires
links::linked-continued-requires t c =
    (omega arith, (c.requires.0, c.requires.1, c.requires.2, rw c.in-None.is at c.requires.3))

pub links::linked-returns-in-Some : goal.links::linked-returns-in-Some
links::linked-returns-in-Some t c =
    λ p q f h typed. cast_linked p q (expression_in c.args.whole.now) f c.in-Some.q c.args.whole.now.at c.args.x c.cast_term.result (rw c.in-Some.is at h) typed c.table.ensures (token_is c.args.whole.now.at c.args.whole.now.kind) c.cast_term.ensures

pub links::linked-returns-in-None : goal.links::linked-returns-in-None
links::linked-returns-in-None t c =
    λ p q f h typed. c.continued.ensures p q f (rw c.in-None.is at h) typed

pub links::named_type-returns-in_err-q-in-Cast : goal.links::named_type-returns-in_err-q-in-Cast
links::named_type-returns-in_err-q-in-Cast t c =
    let p = err_from_is_err_and c.from_residual.result c.from_residual.ensures.1 in
    rw (p.1, p.2, c.in-Cast.is) (fault_of b.cast_type _ (rw c.deref.ensures at c.in_err-q-in-Cast.ensures))

pub links::named_type-returns-in_ok-q-in-Cast : goal.links::named_type-returns-in_ok-q-in-Cast
links::named_type-returns-in_ok-q-in-Cast t c =
    rw c.in-Cast.is (rw c.deref.ensures at c.in_ok-q-in-Cast.ensures)

pub links::named_type-returns-in_default : goal.links::named_type-returns-in_default
links::named_type-returns-in_default t c =
    named_none c.args.place.now c.args.e.now.at c.args.e.now.kind c.in_default.not-Cast

pub expressions::expression-loop-first-init : goal.expressions::expression-loop-first-init
expressions::expression-loop-first-init t c =
    (rw c.new-links.ensures.items (refl, refl), omega arith)

pub expressions::expression-loop-first-preserved : goal.expressions::expression-loop-first-preserved
expressions::expression-loop-first-preserved t c =
    let linked : IsLinked c.loop-first.place (expression_in c.loop-first.rest.now) c.in_ok-named.named _ (expression_in c.in-Some.first.now) = record { first = c.in-Some.ensures.first; type_named = c.in_ok-named.ensures } in
    (link_down _ _ _ _ _ _ _ _ _ _ c.in_ok-push.ensures.items refl c.loop-first.invariant.0 linked c.loop-first.invariant.1, omega (arith, c.in-Some.ensures.below, c.loop-first.invariant.1))

pub expressions::expression-returns-in_err-named : goal.expressions::expression-returns-in_err-named
expressions::expression-returns-in_err-named t c =
    let p = err_from_is_err_and c.from_residual.result c.from_residual.ensures.1 in
    rw (p.1, p.2) (outer_fault _ _ _ _ _ _ _ c.loop-first.invariant.0 c.in_err-named.ensures)

pub expressions::expression-returns-in_err-x : goal.expressions::expression-returns-in_err-x
expressions::expression-returns-in_err-x t c =
    let p = err_from_is_err_and c.from_residual-in_err-x.result c.from_residual-in_err-x.ensures.1 in
    rw (p.1, p.2) (outer_fault _ _ _ _ _ _ _ c.loop-first.invariant.0 c.in_err-x.ensures)

pub expressions::expression-loop-whole-init : goal.expressions::expression-loop-whole-init
expressions::expression-loop-whole-init t c =
    record { place = _; operand = _; outer = c.loop-first.invariant.0; typed = c.in_ok-x.ensures }

pub links::continued-returns-in_err-y-in-Index : goal.links::continued-returns-in_err-y-in-Index
links::continued-returns-in_err-y-in-Index t c =
    let p = err_from_is_err_and c.from_residual.result c.from_residual.ensures.1 in
    rw (p.1, p.2) (λ s q f h typed.
    let read = read_first s q _ _ f c.args.x (rw c.in-Index.is at h.first) (rw c.in-Index.is at h.type_named) typed in
    rw c.in-Index.is (second_fault s (strings_in (expression_in c.in-Index.field-0.value)) b.subscript read.1 _ (rw c.deref.ensures at c.in_err-y-in-Index.ensures)))

pub links::continued-returns-in_ok-y-in-Index : goal.links::continued-returns-in_ok-y-in-Index
links::continued-returns-in_ok-y-in-Index t c =
    λ s q f h typed.
    let read = read_first s q _ _ f c.args.x (rw c.in-Index.is at h.first) (rw c.in-Index.is at h.type_named) typed in
    rw c.in-Index.is (index s _ c.args.x c.in_ok-y-in-Index.y c.index_term.result read (rw c.deref.ensures at c.in_ok-y-in-Index.ensures) c.table.ensures c.index_term.ensures)

pub links::continued-returns-in_err-xs-in-Call : goal.links::continued-returns-in_err-xs-in-Call
links::continued-returns-in_err-xs-in-Call t c =
    let p = err_from_is_err_and c.from_residual-in_err-xs-in-Call.result c.from_residual-in_err-xs-in-Call.ensures.1 in
    let tree = ap (expression_of c.args.whole.now.at) c.in-Call.is ∙ call_tree c.args.whole.now.at c.in-Call.field-0 c.in-Call.arguments in
    rw (p.1, p.2) (λ s q f h typed.
    let called = unnamed_callee (scopes_of s.scope) c.args.whole.now.at (expression_in c.in-Call.field-0.value) (expressions_from c.in-Call.arguments.items) f (rw tree at h.first) in
    let read = read_first s q _ _ f c.args.x called.1 (rw tree at h.type_named) typed in
    rw tree (arguments_fault s _ _ _ _ read.1 (rw c.deref-in-Call.ensures.value at c.in_err-xs-in-Call.ensures)))

pub links::continued-returns-in_ok-xs-in-Call : goal.links::continued-returns-in_ok-xs-in-Call
links::continued-returns-in_ok-xs-in-Call t c =
    let tree = ap (expression_of c.args.whole.now.at) c.in-Call.is ∙ call_tree c.args.whole.now.at c.in-Call.field-0 c.in-Call.arguments in
    rw c.not_called.ensures (λ s q f h typed.
    let called = unnamed_callee (scopes_of s.scope) c.args.whole.now.at (expression_in c.in-Call.field-0.value) (expressions_from c.in-Call.arguments.items) f (rw tree at h.first) in
    let read = read_first s q _ _ f c.args.x called.1 (rw tree at h.type_named) typed in
    rw tree (uncalled s _ _ _ c.args.x c.in_ok-xs-in-Call.xs.items called.0 read (rw c.deref-in-Call.ensures.value at c.in_ok-xs-in-Call.ensures)))

pub links::continued-returns-in-Member : goal.links::continued-returns-in-Member
links::continued-returns-in-Member t c =
    λ s q f h typed.
    let read = read_first s q _ _ f c.args.x (rw c.in-Member.is at h.first) (rw c.in-Member.is at h.type_named) typed in
    rw c.in-Member.is (member s _ _ c.args.x c.dotted.result read c.table-in-Member.ensures (rw c.deref-in-Member.ensures.value at c.dotted.ensures))

pub links::continued-returns-in-Arrow : goal.links::continued-returns-in-Arrow
links::continued-returns-in-Arrow t c =
    λ s q f h typed.
    let read = read_first s q _ _ f c.args.x (rw c.in-Arrow.is at h.first) (rw c.in-Arrow.is at h.type_named) typed in
    rw c.in-Arrow.is (arrow s _ _ c.args.x c.arrowed.result read c.table-in-Arrow.ensures (rw c.deref-in-Arrow.ensures.value at c.arrowed.ensures))

pub links::continued-returns-in-PostStep : goal.links::continued-returns-in-PostStep
links::continued-returns-in-PostStep t c =
    λ s q f h typed.
    let read = read_first s q _ _ f c.args.x (rw c.in-PostStep.is at h.first) (rw c.in-PostStep.is at h.type_named) typed in
    rw c.in-PostStep.is (post_step s _ _ c.args.x c.step_term.result read c.table-in-PostStep.ensures c.step_term.ensures)

pub links::continued-returns-in_err-y-in-Comma : goal.links::continued-returns-in_err-y-in-Comma
links::continued-returns-in_err-y-in-Comma t c =
    let p = err_from_is_err_and c.from_residual-in_err-y-in-Comma.result c.from_residual-in_err-y-in-Comma.ensures.1 in
    rw (p.1, p.2) (λ s q f h typed.
    let read = read_first s q _ _ f c.args.x (rw c.in-Comma.is at h.first) (rw c.in-Comma.is at h.type_named) typed in
    rw c.in-Comma.is (second_fault s (strings_in (expression_in c.in-Comma.field-0.value)) b.behind_comma read.1 _ (rw c.deref-in-Comma.ensures at c.in_err-y-in-Comma.ensures)))

pub links::continued-returns-in_ok-comma_term-in-Comma : goal.links::continued-returns-in_ok-comma_term-in-Comma
links::continued-returns-in_ok-comma_term-in-Comma t c =
    λ s q f h typed.
    let read = read_first s q _ _ f c.args.x (rw c.in-Comma.is at h.first) (rw c.in-Comma.is at h.type_named) typed in
    rw c.in-Comma.is (comma s _ c.args.x c.in_ok-y-in-Comma.y _ read (rw c.deref-in-Comma.ensures at c.in_ok-y-in-Comma.ensures) c.table-in-Comma.ensures c.in_ok-comma_term-in-Comma.ensures)

pub expressions::expression-linked-requires : goal.expressions::expression-linked-requires
expressions::expression-linked-requires t c =
    let up = link_up _ _ _ _ _ _ _ _ c.in-Some-pop.ensures.items c.loop-whole.invariant.outer in
    (omega (arith, up.below), (up.place, c.loop-whole.invariant.place, c.loop-whole.invariant.operand, up.linked))

pub expressions::expression-loop-whole-preserved : goal.expressions::expression-loop-whole-preserved
expressions::expression-loop-whole-preserved t c =
    let at = c.loop-whole.invariant in
    let up = link_up _ _ _ _ _ _ _ _ c.in-Some-pop.ensures.items at.outer in
    record { place = up.place; operand = _; outer = up.outer; typed = c.in_ok-x-2.ensures _ _ _ up.linked at.typed }

pub expressions::expression-returns-in_err-x-2 : goal.expressions::expression-returns-in_err-x-2
expressions::expression-returns-in_err-x-2 t c =
    let p = err_from_is_err_and c.from_residual-in_err-x-2.result c.from_residual-in_err-x-2.ensures.1 in
    let at = c.loop-whole.invariant in
    let up = link_up _ _ _ _ _ _ _ _ c.in-Some-pop.ensures.items at.outer in
    rw (p.1, p.2) (outer_fault _ _ _ _ _ _ _ up.outer (c.in_err-x-2.ensures _ _ _ up.linked at.typed))

pub expressions::expression-returns : goal.expressions::expression-returns
expressions::expression-returns t c =
    whole_typed _ _ _ c.loop-whole.links.items _ _ (nil_from_length c.loop-whole.links.items (sym c.loop-whole.links.ok.0 ∙ c.in_default-pop.ensures.cases.0)) c.loop-whole.invariant

pub expressions::terms-loop-argument-init : goal.expressions::terms-loop-argument-init
expressions::terms-loop-argument-init t c =
    rw c.new-done.ensures.items (terms_none _ _)

pub expressions::terms-loop-argument-preserved : goal.expressions::terms-loop-argument-preserved
expressions::terms-loop-argument-preserved t c =
    let at = next c.args.arguments.now c.loop-argument.argument-index c.argument-item.result c.loop-argument-test.true c.argument-item.is in
    rw c.in_ok-push.ensures.items (terms_more _ _ at c.loop-argument.invariant c.in_ok-x.ensures)

pub expressions::terms-returns-in_err-x : goal.expressions::terms-returns-in_err-x
expressions::terms-returns-in_err-x t c =
    let p = err_from_is_err_and c.from_residual.result c.from_residual.ensures.1 in
    let at = next c.args.arguments.now c.loop-argument.argument-index c.argument-item.result c.loop-argument-test.true c.argument-item.is in
    rw (p.1, p.2) (terms_fault _ _ at c.loop-argument.invariant c.in_err-x.ensures)

pub expressions::terms-returns : goal.expressions::terms-returns
expressions::terms-returns t c =
    terms_all _ (last c.args.arguments.now c.loop-argument.argument-index c.loop-argument-test.false) c.loop-argument.invariant

pub type_names::type_name-returns-in_err-base : goal.type_names::type_name-returns-in_err-base
type_names::type_name-returns-in_err-base t c =
    let p = err_from_is_err_and c.from_residual.result c.from_residual.ensures.1 in
    rw (p.1, p.2, type_name_shape c.args.name.now) (name_unspecified c.args.place.now _ _ _ _ (rw c.deref.ensures.value at (c.in_err-base.ensures (context_of c.args.place.now))))

pub type_names::type_name-returns-in_err-declared : goal.type_names::type_name-returns-in_err-declared
type_names::type_name-returns-in_err-declared t c =
    let p = err_from_is_err_and c.from_residual-in_err-declared.result c.from_residual-in_err-declared.ensures.1 in
    rw (p.1, p.2, type_name_shape c.args.name.now) (name_undeclared c.args.place.now _ _ _ c.in_ok-base.base _ (rw c.deref.ensures.value at (c.in_ok-base.ensures (context_of c.args.place.now))) c.in_err-declared.ensures)

pub type_names::type_name-returns : goal.type_names::type_name-returns
type_names::type_name-returns t c =
    rw (type_name_shape c.args.name.now) (name_done c.args.place.now _ _ _ _ c.in_ok-base.base c.in_ok-declared.declared c.sized_type.result (rw c.deref.ensures.value at (c.in_ok-base.ensures (context_of c.args.place.now))) c.in_ok-declared.ensures c.sized_type.ensures.typed)

pub declarators::declarator_if_any-returns-in-None : goal.declarators::declarator_if_any-returns-in-None
declarators::declarator_if_any-returns-in-None t c =
    rw c.in-None.is (none_declared c.args.place.now c.args.q c.unnamed.result c.unnamed.ensures)

pub declarators::declarator_if_any-returns-in-Some : goal.declarators::declarator_if_any-returns-in-Some
declarators::declarator_if_any-returns-in-Some t c =
    rw c.in-Some.is (some_declared c.args.place.now _ (qualified_of c.args.q) _ c.declarator.result (rw c.deref.ensures at c.declarator.ensures))

pub declarators::middle-returns-in-Absent : goal.declarators::middle-returns-in-Absent
declarators::middle-returns-in-Absent t c =
    rw c.in-Absent.is (absent_declared c.args.place.now c.args.q c.unnamed.result c.unnamed.ensures)

pub declarators::middle-returns-in_ok-from_slice-in-Name : goal.declarators::middle-returns-in_ok-from_slice-in-Name
declarators::middle-returns-in_ok-from_slice-in-Name t c =
    rw c.in-Name.is (name_declared c.args.place.now c.args.q c.in-Name.name.items c.called.result (c.called.ensures ∙ ap (λ x. called x (qualified_of c.args.q)) (c.in_ok-from_slice-in-Name.ensures.items ∙ c.deref.ensures.value)))

pub declarators::middle-returns-in-Inner : goal.declarators::middle-returns-in-Inner
declarators::middle-returns-in-Inner t c =
    rw c.in-Inner.is (inner_declared c.args.place.now _ (qualified_of c.args.q) _ c.declarator.result (rw c.deref-in-Inner.ensures at c.declarator.ensures))

pub declarators::declarator-returns-in_err-base : goal.declarators::declarator-returns-in_err-base
declarators::declarator-returns-in_err-base t c =
    let p = err_from_is_err_and c.from_residual.result c.from_residual.ensures.1 in
    rw (p.1, p.2, declarator_shape c.args.d.now) (stars_fault c.args.place.now _ _ _ _ _ _ (rw c.deref.ensures.value at c.in_err-base.ensures))

pub declarators::declarator-returns-in_err-parts : goal.declarators::declarator-returns-in_err-parts
declarators::declarator-returns-in_err-parts t c =
    let p = err_from_is_err_and c.from_residual-in_err-parts.result c.from_residual-in_err-parts.ensures.1 in
    rw (p.1, p.2, declarator_shape c.args.d.now) (suffixes_fault c.args.place.now _ _ _ _ _ _ _ c.in_ok-place.ensures (rw c.deref-2.ensures.value at (c.in_err-parts.ensures (with_stars (qualified_of c.args.q) (stars_in (out-Declarator c.args.d.now).stars.items)))))

pub declarators::declarator-suffixed-requires : goal.declarators::declarator-suffixed-requires
declarators::declarator-suffixed-requires t c =
    rw (c.deref-3.ensures.value, c.deref-4.ensures.value) (context_of (at_string _ c.args.place.now), (rw c.deref-2.ensures.value at c.in_ok-parts.ensures).0)

pub declarators::declarator-returns-in_err-ty : goal.declarators::declarator-returns-in_err-ty
declarators::declarator-returns-in_err-ty t c =
    let p = err_from_is_err_and c.from_residual-in_err-ty.result c.from_residual-in_err-ty.ensures.1 in
    rw (p.1, p.2, declarator_shape c.args.d.now) (suffixed_fault c.args.place.now _ _ _ _ _ _ c.args.q c.in_ok-base.base _ c.in_ok-place.ensures (rw c.deref.ensures.value at c.in_ok-base.ensures).1 (rw c.deref-2.ensures.value at c.in_ok-parts.ensures) c.table.ensures (rw (c.deref-3.ensures.value, c.deref-4.ensures.value) at c.in_err-ty.ensures))

pub declarators::declarator-returns-in_err-declared : goal.declarators::declarator-returns-in_err-declared
declarators::declarator-returns-in_err-declared t c =
    let p = err_from_is_err_and c.from_residual-in_err-declared.result c.from_residual-in_err-declared.ensures.1 in
    rw (p.1, p.2, declarator_shape c.args.d.now) (core_fault c.args.place.now _ _ _ _ _ _ _ _ c.in_ok-place.ensures (rw c.deref-2.ensures.value at c.in_ok-parts.ensures).1 (suffixed_before (at_string _ c.args.place.now) (stars_in (out-Declarator c.args.d.now).stars.items) _ _ c.args.q c.in_ok-base.base c.in_ok-ty.ty (rw c.deref.ensures.value at c.in_ok-base.ensures).1 (rw c.deref-2.ensures.value at c.in_ok-parts.ensures) c.table.ensures (rw (c.deref-3.ensures.value, c.deref-4.ensures.value) at c.in_ok-ty.ensures)) c.in_err-declared.ensures)

pub declarators::declarator-returns : goal.declarators::declarator-returns
declarators::declarator-returns t c =
    rw (declarator_shape c.args.d.now) (declarator_done c.args.place.now _ _ _ _ _ _ _ _ (rw c.deref.ensures.value at c.in_ok-base.ensures).0 c.in_ok-place.ensures (rw c.deref-2.ensures.value at c.in_ok-parts.ensures).1 (suffixed_before (at_string _ c.args.place.now) (stars_in (out-Declarator c.args.d.now).stars.items) _ _ c.args.q c.in_ok-base.base c.in_ok-ty.ty (rw c.deref.ensures.value at c.in_ok-base.ensures).1 (rw c.deref-2.ensures.value at c.in_ok-parts.ensures) c.table.ensures (rw (c.deref-3.ensures.value, c.deref-4.ensures.value) at c.in_ok-ty.ensures)) c.in_ok-declared.ensures)

pub suffixes::given-loop-suffix-init : goal.suffixes::given-loop-suffix-init
suffixes::given-loop-suffix-init t c =
    rw c.new-done.ensures.items (given_none _ _)

pub suffixes::given-loop-suffix-preserved : goal.suffixes::given-loop-suffix-preserved
suffixes::given-loop-suffix-preserved t c =
    let at = next c.args.suffixes.now c.loop-suffix.suffix-index c.suffix-item.result c.loop-suffix-test.true c.suffix-item.is in
    rw c.in_ok-push.ensures.items (given_more _ _ at c.loop-suffix.invariant c.in_ok-part.ensures)

pub suffixes::given-returns-in_err-part : goal.suffixes::given-returns-in_err-part
suffixes::given-returns-in_err-part t c =
    let p = err_from_is_err_and c.from_residual.result c.from_residual.ensures.1 in
    let at = next c.args.suffixes.now c.loop-suffix.suffix-index c.suffix-item.result c.loop-suffix-test.true c.suffix-item.is in
    rw (p.1, p.2) (given_fault _ _ at c.loop-suffix.invariant c.in_err-part.ensures)

pub suffixes::given-returns : goal.suffixes::given-returns
suffixes::given-returns t c =
    given_all _ (last c.args.suffixes.now c.loop-suffix.suffix-index c.loop-suffix-test.false) c.loop-suffix.invariant

pub suffixes::given_in-returns-in-Array : goal.suffixes::given_in-returns-in-Array
suffixes::given_in-returns-in-Array t c =
    λ rest. rw (ap (λ (kind : xk.SuffixKind). with_suffix c.args.suffix.now.at kind rest) c.in-Array.is ∙ array_tree c.args.suffix.now.at c.in-Array.written rest) (c.written_length.ensures c.args.suffix.now.at rest)

pub suffixes::given_in-returns-in_err-parameters-in-Function : goal.suffixes::given_in-returns-in_err-parameters-in-Function
suffixes::given_in-returns-in_err-parameters-in-Function t c =
    let p = err_from_is_err_and c.from_residual.result c.from_residual.ensures.1 in
    rw (p.1, p.2) (λ rest q. rw (ap (λ (kind : xk.SuffixKind). with_suffix c.args.suffix.now.at kind rest) c.in-Function.is ∙ function_suffix c.args.suffix.now.at c.in-Function.written rest) (fault_of b.parameters_part _ (rw c.deref.ensures.value at c.in_err-parameters-in-Function.ensures)))

pub suffixes::given_in-returns-in_ok-parameters-in-Function : goal.suffixes::given_in-returns-in_ok-parameters-in-Function
suffixes::given_in-returns-in_ok-parameters-in-Function t c =
    λ rest. rw (ap (λ (kind : xk.SuffixKind). with_suffix c.args.suffix.now.at kind rest) c.in-Function.is ∙ function_suffix c.args.suffix.now.at c.in-Function.written rest) (function_given _ _ rest (rw c.deref.ensures.value at c.in_ok-parameters-in-Function.ensures))

pub suffixes::written_length-returns-in-None : goal.suffixes::written_length-returns-in-None
suffixes::written_length-returns-in-None t c =
    rw c.in-None.is (λ at rest. open_given _ at rest)

pub suffixes::written_length-returns-in_err-x-in-Some : goal.suffixes::written_length-returns-in_err-x-in-Some
suffixes::written_length-returns-in_err-x-in-Some t c =
    let p = err_from_is_err_and c.from_residual.result c.from_residual.ensures.1 in
    rw (p.1, p.2, c.in-Some.is) (λ at rest q. fault_of b.length_part _ (rw c.deref.ensures at c.in_err-x-in-Some.ensures))

pub suffixes::written_length-returns-in_ok-x-in-Some : goal.suffixes::written_length-returns-in_ok-x-in-Some
suffixes::written_length-returns-in_ok-x-in-Some t c =
    rw c.in-Some.is (λ at rest. length_given c.in_ok-x-in-Some.x c.constant_of.result at rest (rw c.deref.ensures at c.in_ok-x-in-Some.ensures) (c.constant_of.ensures c.args.place.now.structs))

pub formals::parameters-returns-in_err-declared : goal.formals::parameters-returns-in_err-declared
formals::parameters-returns-in_err-declared t c =
    let p = err_from_is_err_and c.from_residual-in_err-declared.result c.from_residual-in_err-declared.ensures.1 in
    rw (p.1, p.2) (parameters_broken c.args.place.now _ _ _ c.in_ok-open.ensures.grown c.in_ok-open.ensures.scopes c.in_err-declared.ensures)

pub formals::parameters-returns : goal.formals::parameters-returns
formals::parameters-returns t c =
    parameters_done c.args.place.now _ _ _ _ _ c.in_ok-open.ensures.grown c.in_ok-open.ensures.scopes c.mark-mark.ensures c.in_ok-declared.ensures c.close.ensures

pub formals::parameters_here-loop-one-init : goal.formals::parameters_here-loop-one-init
formals::parameters_here-loop-one-init t c =
    (rw c.new-done.ensures.items (parameters_none _ _), refl, c.requires)

pub formals::parameters_here-loop-one-preserved : goal.formals::parameters_here-loop-one-preserved
formals::parameters_here-loop-one-preserved t c =
    let at = next c.args.written.now c.loop-one.one-index c.one-item.result c.loop-one-test.true c.one-item.is in
    let on = parameters_more c.loop-one.done.items c.in_ok-declared.declared at c.loop-one.invariant.0 (rw c.loop-one.invariant.1 at c.in_ok-declared.ensures) in
    (rw c.in_ok-push.ensures.items on, c.in-Some.ensures.1 ∙ ap (λ n. n + 1) c.loop-one.invariant.1, stays_inside _ _ on.grown c.requires)

pub formals::parameters_here-returns-in_err-declared : goal.formals::parameters_here-returns-in_err-declared
formals::parameters_here-returns-in_err-declared t c =
    let p = err_from_is_err_and c.from_residual.result c.from_residual.ensures.1 in
    let at = next c.args.written.now c.loop-one.one-index c.one-item.result c.loop-one-test.true c.one-item.is in
    rw (p.1, p.2) (parameters_fault _ _ at c.loop-one.invariant.0 (rw c.loop-one.invariant.1 at c.in_err-declared.ensures))

pub formals::parameters_here-returns : goal.formals::parameters_here-returns
formals::parameters_here-returns t c =
    parameters_all _ (last c.args.written.now c.loop-one.one-index c.loop-one-test.false) c.loop-one.invariant.0

pub formals::parameter_here-returns-in_err-q : goal.formals::parameter_here-returns-in_err-q
formals::parameter_here-returns-in_err-q t c =
    let p = err_from_is_err_and c.from_residual.result c.from_residual.ensures.1 in
    rw (p.1, p.2) (λ rest. rw (parameter_shape c.args.one.now rest) (parameter_unspecified c.args.place.now _ _ _ _ rest _ (rw c.deref.ensures.value at (c.in_err-q.ensures (context_of c.args.place.now)))))

pub formals::parameter_here-returns-in_err-declared : goal.formals::parameter_here-returns-in_err-declared
formals::parameter_here-returns-in_err-declared t c =
    let p = err_from_is_err_and c.from_residual-in_err-declared.result c.from_residual-in_err-declared.ensures.1 in
    rw (p.1, p.2) (λ rest. rw (parameter_shape c.args.one.now rest) (parameter_undeclared c.args.place.now _ _ _ _ _ rest c.in_ok-q.q _ (rw c.deref.ensures.value at (c.in_ok-q.ensures (context_of c.args.place.now))) c.in_ok-mention.ensures.grown (rw c.deref-2.ensures.value at (c.in_ok-mention.ensures.scopes (context_of c.args.place.now))) c.in_err-declared.ensures))

pub formals::parameter_here-parameter-requires : goal.formals::parameter_here-parameter-requires
formals::parameter_here-parameter-requires t c =
    inside_here c.args.place.now _ _ _ c.in_ok-mention.ensures.grown c.in_ok-declared.ensures.1 c.requires

pub formals::parameter_here-returns : goal.formals::parameter_here-returns
formals::parameter_here-returns t c =
    λ rest. rw (parameter_shape c.args.one.now rest) (parameter_made c.args.place.now _ _ _ _ _ _ _ rest c.in_ok-q.q c.in_ok-declared.declared (rw c.deref.ensures.value at (c.in_ok-q.ensures (context_of c.args.place.now))) c.in_ok-mention.ensures.grown (rw c.deref-2.ensures.value at (c.in_ok-mention.ensures.scopes (context_of c.args.place.now))) c.in_ok-declared.ensures c.parameter.result (rw c.token_of-token.ensures at (c.parameter.ensures.asked (context_of c.args.place.now) c.args.place.now.outline.lists)) c.parameter.ensures.adjusted (c.parameter.ensures.scopes (context_of c.args.place.now) c.args.place.now.outline.lists) c.parameter.ensures.grown)
