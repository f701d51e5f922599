use Rattle.std.proofs.Common.{◌≡◌, ◌++◌, List, OnOk, ap, subst, sym, ◌∙◌, arith, rules}
use Rattle.im_check_texts.specs.im_word.Words.{Name}
use Rattle.im_ctree.specs.Tree as tree
use Rattle.im_ctree.specs.Shape.{declarator_of, core_of, type_name_of, expression_of, specifier_of}
use Rattle.im_ctree.specs.declared.declarator.Declarator.{out-Declarator}
use Rattle.im_ctree.specs.declared.declarator.Parameter.{out-Parameter}
use Rattle.im_ctree.specs.declared.declarator.TypeName.{out-TypeName}
use Rattle.im_ctree.specs.declared.specifier.Member.{out-Member}
use Rattle.im_check_texts.specs.im_rules.Strings as s
use Rattle.im_ctree_parts.specs.Lists.{expression_in, expressions_from, specifiers_in, with_member, declarators_from, declarator_from, suffixes_from, with_suffix, parameters_from, with_parameter}
use Rattle.im_ctree_parts.proofs.Shapes.{call_tree, struct_tree, enum_tree, function_suffix}
use Rattle.im_check_string_numbers.specs.Chains.{behind_first}
use Rattle.im_check_string_numbers.proofs.Counted.{in_member, in_declarator, in_parameter, in_type_name}
use Rattle.im_check_texts.specs.Texts.{texts_in}
use Rattle.im_check_texts.proofs.Appended.{joined, passing, both_passing, on_ok}
use Rattle.im_check_texts.proofs.Chains.{link_down, link_up, formed, none_deeper_more, none_deeper_less}
use Rattle.im_check_texts.proofs.+texts.Goals as goal

pub declarator::append_declarator-returns : goal.declarator::append_declarator-returns
declarator::append_declarator-returns t c =
    let d = out-Declarator c.args.d.now in
    let behind = rw c.deref.ensures.value at c.append_suffixes.ensures in
    let xs = s.strings_of_core (core_of d.core) in
    let ys = s.strings_of_suffixes (suffixes_from d.suffixes.items) in
    let all = joined (texts_in c.args.texts.now.items) (texts_in c.append_core.new.texts.items) xs ys (s.strings_of_declarator (declarator_of c.args.d.now)) (in_declarator c.args.d.now) c.in_ok-append_core.ensures in
    subst (λ (z : List Name). OnOk c.append_suffixes.result (texts_in c.append_suffixes.new.texts.items ≡ z)) all behind

pub declarator::append_parameter-returns : goal.declarator::append_parameter-returns
declarator::append_parameter-returns t c =
    let p = c.args.parameter.now in
    let xs = s.strings_specified (specifiers_in (out-Parameter p).specifiers) in
    let ys = s.strings_may (declarator_from (out-Parameter p).declarator) in
    on_ok c.append_declarator_if_any.result (both_passing (texts_in c.args.texts.now.items) (texts_in c.append_specifiers.new.texts.items) (texts_in c.append_declarator_if_any.new.texts.items) xs ys (λ rest. s.strings_of_parameters (with_parameter p rest)) s.strings_of_parameters (in_parameter p) c.in_ok-append_specifiers.ensures) c.append_declarator_if_any.ensures

pub declarator::append_suffix-returns-in-Function : goal.declarator::append_suffix-returns-in-Function
declarator::append_suffix-returns-in-Function t c =
    let at = c.args.suffix.now.at in
    let ps = c.in-Function.parameters in
    let behind = rw c.deref.ensures.value at c.append_parameters.ensures in
    let told = λ (rest : tree.Suffixes). ap s.strings_of_suffixes (ap (λ k. with_suffix at k rest) c.in-Function.is ∙ function_suffix at ps rest) in
    on_ok c.append_parameters.result (passing (texts_in c.args.texts.now.items) (texts_in c.append_parameters.new.texts.items) (s.strings_of_parameters (parameters_from ps.items)) (λ rest. s.strings_of_suffixes (with_suffix at c.args.suffix.now.kind rest)) s.strings_of_suffixes told) behind

pub expression::append_behind_first-returns-in-Call : goal.expression::append_behind_first-returns-in-Call
expression::append_behind_first-returns-in-Call t c =
    let at = c.args.e.now.at in
    let es = c.in-Call.arguments in
    let behind = rw c.deref.ensures.value at c.append_expressions.ensures in
    let told = ap behind_first (ap (expression_of at) c.in-Call.is ∙ call_tree at c.in-Call.field-0 es) in
    subst (λ (z : List Name). OnOk c.append_expressions.result (texts_in c.append_expressions.new.texts.items ≡ texts_in c.args.texts.now.items ++ z)) (sym told) behind

pub expression::append_form-returns-in_ok-append_expression-in-Call : goal.expression::append_form-returns-in_ok-append_expression-in-Call
expression::append_form-returns-in_ok-append_expression-in-Call t c =
    let at = c.args.e.now.at in
    let f = c.in-Call.callee in
    let es = c.in-Call.arguments in
    let behind = rw c.deref-in-Call-2.ensures.value at c.append_expressions.ensures in
    let first = rw c.deref-in-Call.ensures at c.in_ok-append_expression-in-Call.ensures in
    let told = ap s.strings_in (ap (expression_of at) c.in-Call.is ∙ call_tree at f es) in
    let all = joined (texts_in c.args.texts.now.items) (texts_in c.append_expression-in-Call.new.texts.items) (s.strings_in (expression_in f.value)) (s.strings_among (expressions_from es.items)) (s.strings_in (expression_in c.args.e.now)) told first in
    subst (λ (z : List Name). OnOk c.append_expressions.result (texts_in c.append_expressions.new.texts.items ≡ z)) all behind

pub expression::append_type_name-returns : goal.expression::append_type_name-returns
expression::append_type_name-returns t c =
    let n = c.args.name.now in
    let xs = s.strings_specified (specifiers_in (out-TypeName n).specifiers) in
    let ys = s.strings_may (declarator_from (out-TypeName n).declarator) in
    let all = joined (texts_in c.args.texts.now.items) (texts_in c.append_specifiers.new.texts.items) xs ys (s.strings_named (type_name_of n)) (in_type_name n) c.in_ok-append_specifiers.ensures in
    subst (λ (z : List Name). OnOk c.append_declarator_if_any.result (texts_in c.append_declarator_if_any.new.texts.items ≡ z)) all c.append_declarator_if_any.ensures

pub specifier::append_member-returns : goal.specifier::append_member-returns
specifier::append_member-returns t c =
    let m = c.args.member.now in
    let xs = s.strings_specified (specifiers_in (out-Member m).specifiers) in
    let ys = s.strings_of_declarators (declarators_from (out-Member m).declarators.items) in
    let behind = rw c.deref.ensures.value at c.append_declarators.ensures in
    on_ok c.append_declarators.result (both_passing (texts_in c.args.texts.now.items) (texts_in c.append_specifiers.new.texts.items) (texts_in c.append_declarators.new.texts.items) xs ys (λ rest. s.strings_of_members (with_member m rest)) s.strings_of_members (in_member m) c.in_ok-append_specifiers.ensures) behind

pub specifier::append_specifier-returns-in-Struct : goal.specifier::append_specifier-returns-in-Struct
specifier::append_specifier-returns-in-Struct t c =
    let at = c.args.specifier.now.at in
    let behind = rw c.deref.ensures.value at c.append_members.ensures in
    let told = ap s.strings_of_specifier (ap (specifier_of at) c.in-Struct.is ∙ struct_tree at _ c.in-Struct.members) in
    subst (λ (z : List Name). OnOk c.append_members.result (texts_in c.append_members.new.texts.items ≡ texts_in c.args.texts.now.items ++ z)) (sym told) behind

pub specifier::append_specifier-returns-in-Enum : goal.specifier::append_specifier-returns-in-Enum
specifier::append_specifier-returns-in-Enum t c =
    let at = c.args.specifier.now.at in
    let behind = rw c.deref-in-Enum.ensures.value at c.append_enumerators.ensures in
    let told = ap s.strings_of_specifier (ap (specifier_of at) c.in-Enum.is ∙ enum_tree at _ c.in-Enum.enumerators) in
    subst (λ (z : List Name). OnOk c.append_enumerators.result (texts_in c.append_enumerators.new.texts.items ≡ texts_in c.args.texts.now.items ++ z)) (sym told) behind

pub expression::append_expression-loop-first-preserved : goal.expression::append_expression-loop-first-preserved
expression::append_expression-loop-first-preserved t c =
    let down = link_down _ _ _ _ _ (expression_in c.in-Some.first.now) c.in_ok-push.ensures.items c.in-Some.ensures.chain c.in_ok-append_before_first.ensures ∙ c.loop-first.invariant.0 in
    (down, omega (arith, c.in-Some.ensures.below, c.loop-first.invariant.1), none_deeper_more _ _ _ _ c.in_ok-push.ensures.items c.loop-first.invariant.2 c.loop-first.invariant.1)

pub expression::append_expression-loop-link-init : goal.expression::append_expression-loop-link-init
expression::append_expression-loop-link-init t c =
    let whole = s.strings_in (expression_in c.loop-first.rest.now) in
    (formed (texts_in c.loop-first.texts.items) _ whole c.loop-first.links.items c.in_ok-append_form.ensures ∙ c.loop-first.invariant.0, c.loop-first.invariant.2)

pub expression::append_expression-append_behind_first-requires : goal.expression::append_expression-append_behind_first-requires
expression::append_expression-append_behind_first-requires t c =
    let fits = (none_deeper_less _ _ _ _ c.in-Some-pop.ensures.items c.loop-link.invariant.1).0 in
    search (rules, fits)

pub expression::append_expression-loop-link-preserved : goal.expression::append_expression-loop-link-preserved
expression::append_expression-loop-link-preserved t c =
    (link_up _ _ _ _ _ c.in-Some-pop.ensures.items c.in_ok-append_behind_first.ensures ∙ c.loop-link.invariant.0, (none_deeper_less _ _ _ _ c.in-Some-pop.ensures.items c.loop-link.invariant.1).1)
