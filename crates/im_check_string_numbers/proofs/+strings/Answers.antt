use Rattle.std.proofs.Common.{◌≡◌, ◌+◌, ◌++◌, length, IfOk, ap, subst, sym, ◌∙◌, arith}
use Rattle.im_ctree.specs.Tree as tree
use Rattle.im_ctree.specs.Shape.{declarator_of, core_of, type_name_of, expression_of, specifier_of}
use Rattle.im_ctree.specs.declared.declarator.Declarator.{out-Declarator}
use Rattle.im_ctree.specs.declared.declarator.Parameter.{out-Parameter}
use Rattle.im_ctree.specs.declared.declarator.TypeName.{out-TypeName}
use Rattle.im_ctree.specs.declared.specifier.Member.{out-Member}
use Rattle.im_rules.specs.Strings as s
use Rattle.im_ctree_parts.specs.Lists.{expression_in, expressions_from, specifiers_in, with_member, declarators_from, declarator_from, suffixes_from, with_suffix, parameters_from, with_parameter}
use Rattle.im_ctree_parts.proofs.Shapes.{call_tree, struct_tree, enum_tree, function_suffix}
use Rattle.im_check_string_numbers.specs.Chains.{before_first, behind_first}
use Rattle.im_check_string_numbers.proofs.Counted.{joined, others_counted, passing, both_passing, in_member, in_declarator, in_parameter, in_type_name}
use Rattle.im_check_string_numbers.proofs.+strings.Goals as goal

pub declarator::behind_declarator-returns : goal.declarator::behind_declarator-returns
declarator::behind_declarator-returns t c =
    let d = out-Declarator c.args.d.now in
    let behind = rw c.deref.ensures.value at c.behind_suffixes.ensures in
    let xs = s.strings_of_core (core_of d.core) in
    let ys = s.strings_of_suffixes (suffixes_from d.suffixes.items) in
    let all = joined c.args.next c.in_ok-inner.inner xs ys (s.strings_of_declarator (declarator_of c.args.d.now)) (in_declarator c.args.d.now) c.in_ok-inner.ensures in
    subst (λ z. IfOk c.behind_suffixes.result (λ n. n ≡ z)) all behind

pub declarator::behind_parameter-returns : goal.declarator::behind_parameter-returns
declarator::behind_parameter-returns t c =
    let p = c.args.parameter.now in
    let xs = s.strings_specified (specifiers_in (out-Parameter p).specifiers) in
    let ys = s.strings_may (declarator_from (out-Parameter p).declarator) in
    both_passing c.behind_declarator_if_any.result c.args.next c.in_ok-inner.inner xs ys (λ rest. s.strings_of_parameters (with_parameter p rest)) s.strings_of_parameters (in_parameter p) c.in_ok-inner.ensures c.behind_declarator_if_any.ensures

pub declarator::behind_suffix-returns-in-Function : goal.declarator::behind_suffix-returns-in-Function
declarator::behind_suffix-returns-in-Function t c =
    let at = c.args.suffix.now.at in
    let ps = c.in-Function.parameters in
    let behind = rw c.deref.ensures.value at c.behind_parameters.ensures in
    let told = λ (rest : tree.Suffixes). ap s.strings_of_suffixes (ap (λ k. with_suffix at k rest) c.in-Function.is ∙ function_suffix at ps rest) in
    passing c.behind_parameters.result c.args.next (s.strings_of_parameters (parameters_from ps.items)) (λ rest. s.strings_of_suffixes (with_suffix at c.args.suffix.now.kind rest)) s.strings_of_suffixes told behind

pub expression::behind_expression-loop-first-preserved : goal.expression::behind_expression-loop-first-preserved
expression::behind_expression-loop-first-preserved t c =
    let whole = expression_in c.loop-first.rest.now in
    let first = c.in-Some.first.now in
    let all = c.args.next + length (s.strings_in (expression_in c.args.e.now)) in
    let left = others_counted c.loop-first.done c.in_ok-done.done all (before_first whole) (s.strings_in (expression_in first)) (behind_first whole) (s.strings_in whole) c.in-Some.ensures.chain c.in_ok-done.ensures c.loop-first.invariant.0 in
    (left, omega (arith, c.in-Some.ensures.below, c.loop-first.invariant.1))

pub expression::behind_others-returns-in-Call : goal.expression::behind_others-returns-in-Call
expression::behind_others-returns-in-Call t c =
    let at = c.args.e.now.at in
    let es = c.in-Call.arguments in
    let behind = rw c.deref-in-Call.ensures.value at c.behind_expressions.ensures in
    let told = ap (λ z. before_first z ++ behind_first z) (ap (expression_of at) c.in-Call.is ∙ call_tree at c.in-Call.field-0 es) in
    subst (λ z. IfOk c.behind_expressions.result (λ n. n ≡ c.args.next + length z)) (sym told) behind

pub expression::behind_form-returns-in_ok-inner-in-Call : goal.expression::behind_form-returns-in_ok-inner-in-Call
expression::behind_form-returns-in_ok-inner-in-Call t c =
    let at = c.args.e.now.at in
    let f = c.in-Call.callee in
    let es = c.in-Call.arguments in
    let behind = rw c.deref-in-Call-2.ensures.value at c.behind_expressions.ensures in
    let first = rw c.deref-in-Call.ensures at c.in_ok-inner-in-Call.ensures in
    let told = ap s.strings_in (ap (expression_of at) c.in-Call.is ∙ call_tree at f es) in
    let all = joined c.args.next c.in_ok-inner-in-Call.inner (s.strings_in (expression_in f.value)) (s.strings_among (expressions_from es.items)) (s.strings_in (expression_in c.args.e.now)) told first in
    subst (λ z. IfOk c.behind_expressions.result (λ n. n ≡ z)) all behind

pub expression::behind_type_name-returns : goal.expression::behind_type_name-returns
expression::behind_type_name-returns t c =
    let n = c.args.name.now in
    let xs = s.strings_specified (specifiers_in (out-TypeName n).specifiers) in
    let ys = s.strings_may (declarator_from (out-TypeName n).declarator) in
    let all = joined c.args.next c.in_ok-inner.inner xs ys (s.strings_named (type_name_of n)) (in_type_name n) c.in_ok-inner.ensures in
    subst (λ z. IfOk c.behind_declarator_if_any.result (λ n. n ≡ z)) all c.behind_declarator_if_any.ensures

pub specifier::behind_member-returns : goal.specifier::behind_member-returns
specifier::behind_member-returns t c =
    let m = c.args.member.now in
    let xs = s.strings_specified (specifiers_in (out-Member m).specifiers) in
    let ys = s.strings_of_declarators (declarators_from (out-Member m).declarators.items) in
    let behind = rw c.deref.ensures.value at c.behind_declarators.ensures in
    both_passing c.behind_declarators.result c.args.next c.in_ok-inner.inner xs ys (λ rest. s.strings_of_members (with_member m rest)) s.strings_of_members (in_member m) c.in_ok-inner.ensures behind

pub specifier::behind_specifier-returns-in-Struct : goal.specifier::behind_specifier-returns-in-Struct
specifier::behind_specifier-returns-in-Struct t c =
    let at = c.args.specifier.now.at in
    let behind = rw c.deref.ensures.value at c.behind_members.ensures in
    let told = ap s.strings_of_specifier (ap (specifier_of at) c.in-Struct.is ∙ struct_tree at _ c.in-Struct.members) in
    subst (λ z. IfOk c.behind_members.result (λ n. n ≡ c.args.next + length z)) (sym told) behind

pub specifier::behind_specifier-returns-in-Enum : goal.specifier::behind_specifier-returns-in-Enum
specifier::behind_specifier-returns-in-Enum t c =
    let at = c.args.specifier.now.at in
    let behind = rw c.deref-in-Enum.ensures.value at c.behind_enumerators.ensures in
    let told = ap s.strings_of_specifier (ap (specifier_of at) c.in-Enum.is ∙ enum_tree at _ c.in-Enum.enumerators) in
    subst (λ z. IfOk c.behind_enumerators.result (λ n. n ≡ c.args.next + length z)) (sym told) behind
