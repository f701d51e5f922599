use Rattle.std.proofs.Common.{◌≡◌, ◌≤◌, ◌++◌, length, drop}
use Rattle.im_ctree.specs.declared.expression.Expression.{size-Expression}
use Rattle.im_check_texts.specs.im_rules.Strings as s
use Rattle.im_ctree_parts.specs.Lists.{expression_in, expressions_from, list_from, members_from, declarators_from, enumerators_from, suffixes_from, parameters_from}
use Rattle.im_check_texts.specs.Texts.{texts_in}
use Rattle.im_check_texts.proofs.Chains.{behind, NoneDeeper}
use Rattle.im_check_texts.proofs.+texts.Given as goal

-- down a chain: what is left is the rest, and what stands behind its links
abbrev pub invariant-expression::append_expression-loop-first : goal.invariant-expression::append_expression-loop-first
invariant-expression::append_expression-loop-first l =
    (texts_in l.texts.items ++ (s.strings_in (expression_in l.rest) ++ behind l.links.items) ≡ texts_in l.initial.texts.items ++ s.strings_in (expression_in l.e))
    × (size-Expression l.rest ≤ size-Expression l.e)
    × NoneDeeper (size-Expression l.e) l.links.items

-- and up again
abbrev pub invariant-expression::append_expression-loop-link : goal.invariant-expression::append_expression-loop-link
invariant-expression::append_expression-loop-link l =
    (texts_in l.texts.items ++ behind l.links.items ≡ texts_in l.fn.texts.items ++ s.strings_in (expression_in l.e))
    × NoneDeeper (size-Expression l.e) l.links.items

abbrev pub decreases-expression::append_expression-loop-link : goal.decreases-expression::append_expression-loop-link
decreases-expression::append_expression-loop-link l = length l.links.items

abbrev pub invariant-expression::append_expressions-loop-e : goal.invariant-expression::append_expressions-loop-e
invariant-expression::append_expressions-loop-e l = texts_in l.texts.items ++ s.strings_among (expressions_from (drop l.e-index l.expressions)) ≡ texts_in l.initial.texts.items ++ s.strings_among (expressions_from l.expressions)

abbrev pub invariant-specifier::append_listed-loop-specifier : goal.invariant-specifier::append_listed-loop-specifier
invariant-specifier::append_listed-loop-specifier l = texts_in l.texts.items ++ s.strings_listed (list_from (drop l.specifier-index l.specifiers)) ≡ texts_in l.initial.texts.items ++ s.strings_listed (list_from l.specifiers)

abbrev pub invariant-specifier::append_members-loop-member : goal.invariant-specifier::append_members-loop-member
invariant-specifier::append_members-loop-member l = texts_in l.texts.items ++ s.strings_of_members (members_from (drop l.member-index l.members)) ≡ texts_in l.initial.texts.items ++ s.strings_of_members (members_from l.members)

abbrev pub invariant-specifier::append_declarators-loop-d : goal.invariant-specifier::append_declarators-loop-d
invariant-specifier::append_declarators-loop-d l = texts_in l.texts.items ++ s.strings_of_declarators (declarators_from (drop l.d-index l.declarators)) ≡ texts_in l.initial.texts.items ++ s.strings_of_declarators (declarators_from l.declarators)

abbrev pub invariant-specifier::append_enumerators-loop-enumerator : goal.invariant-specifier::append_enumerators-loop-enumerator
invariant-specifier::append_enumerators-loop-enumerator l = texts_in l.texts.items ++ s.strings_of_enumerators (enumerators_from (drop l.enumerator-index l.enumerators)) ≡ texts_in l.initial.texts.items ++ s.strings_of_enumerators (enumerators_from l.enumerators)

abbrev pub invariant-declarator::append_suffixes-loop-suffix : goal.invariant-declarator::append_suffixes-loop-suffix
invariant-declarator::append_suffixes-loop-suffix l = texts_in l.texts.items ++ s.strings_of_suffixes (suffixes_from (drop l.suffix-index l.suffixes)) ≡ texts_in l.initial.texts.items ++ s.strings_of_suffixes (suffixes_from l.suffixes)

abbrev pub invariant-declarator::append_parameters-loop-parameter : goal.invariant-declarator::append_parameters-loop-parameter
invariant-declarator::append_parameters-loop-parameter l = texts_in l.texts.items ++ s.strings_of_parameters (parameters_from (drop l.parameter-index l.parameters)) ≡ texts_in l.initial.texts.items ++ s.strings_of_parameters (parameters_from l.parameters)
