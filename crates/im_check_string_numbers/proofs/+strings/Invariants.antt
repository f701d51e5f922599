use Rattle.std.proofs.Common.{◌≡◌, ◌+◌, ◌≤◌, length, drop}
use Rattle.im_ctree.specs.declared.expression.Expression.{size-Expression}
use Rattle.im_rules.specs.Strings as s
use Rattle.im_ctree_parts.specs.Lists.{expression_in, expressions_from, list_from, members_from, declarators_from, enumerators_from, suffixes_from, parameters_from}
use Rattle.im_check_string_numbers.proofs.+strings.Given as goal

abbrev pub invariant-expression::behind_expression-loop-first : goal.invariant-expression::behind_expression-loop-first
invariant-expression::behind_expression-loop-first l =
    (l.done + length (s.strings_in (expression_in l.rest)) ≡ l.next + length (s.strings_in (expression_in l.e)))
    × (size-Expression l.rest ≤ size-Expression l.e)

abbrev pub invariant-expression::behind_expressions-loop-e : goal.invariant-expression::behind_expressions-loop-e
invariant-expression::behind_expressions-loop-e l = l.done + length (s.strings_among (expressions_from (drop l.e-index l.expressions))) ≡ l.next + length (s.strings_among (expressions_from l.expressions))

abbrev pub invariant-specifier::behind_listed-loop-specifier : goal.invariant-specifier::behind_listed-loop-specifier
invariant-specifier::behind_listed-loop-specifier l = l.done + length (s.strings_listed (list_from (drop l.specifier-index l.specifiers))) ≡ l.next + length (s.strings_listed (list_from l.specifiers))

abbrev pub invariant-specifier::behind_members-loop-member : goal.invariant-specifier::behind_members-loop-member
invariant-specifier::behind_members-loop-member l = l.done + length (s.strings_of_members (members_from (drop l.member-index l.members))) ≡ l.next + length (s.strings_of_members (members_from l.members))

abbrev pub invariant-specifier::behind_declarators-loop-d : goal.invariant-specifier::behind_declarators-loop-d
invariant-specifier::behind_declarators-loop-d l = l.done + length (s.strings_of_declarators (declarators_from (drop l.d-index l.declarators))) ≡ l.next + length (s.strings_of_declarators (declarators_from l.declarators))

abbrev pub invariant-specifier::behind_enumerators-loop-enumerator : goal.invariant-specifier::behind_enumerators-loop-enumerator
invariant-specifier::behind_enumerators-loop-enumerator l = l.done + length (s.strings_of_enumerators (enumerators_from (drop l.enumerator-index l.enumerators))) ≡ l.next + length (s.strings_of_enumerators (enumerators_from l.enumerators))

abbrev pub invariant-declarator::behind_suffixes-loop-suffix : goal.invariant-declarator::behind_suffixes-loop-suffix
invariant-declarator::behind_suffixes-loop-suffix l = l.done + length (s.strings_of_suffixes (suffixes_from (drop l.suffix-index l.suffixes))) ≡ l.next + length (s.strings_of_suffixes (suffixes_from l.suffixes))

abbrev pub invariant-declarator::behind_parameters-loop-parameter : goal.invariant-declarator::behind_parameters-loop-parameter
invariant-declarator::behind_parameters-loop-parameter l = l.done + length (s.strings_of_parameters (parameters_from (drop l.parameter-index l.parameters))) ≡ l.next + length (s.strings_of_parameters (parameters_from l.parameters))
