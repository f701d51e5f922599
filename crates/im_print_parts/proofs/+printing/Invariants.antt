use Rattle.std.proofs.Common.{◌≡◌, ◌≤◌, ◌++◌, length, drop, false}
use Rattle.im_ctree.specs.declared.expression.Expression.{size-Expression}
use Rattle.im_print_parts.specs.Output.{spaced, each, known}
use Rattle.im_print_parts.specs.Parts as parts
use Rattle.im_print_relation.specs.Printed as printed
use Rattle.im_ctree_parts.specs.Lists.{expression_in, list_from}
use Rattle.im_print_parts.proofs.Links.{behind, NoneDeeper}
use Rattle.im_print_parts.proofs.+printing.Given as goal

abbrev pub invariant-expressions::put_arguments-loop-argument : goal.invariant-expressions::put_arguments-loop-argument
invariant-expressions::put_arguments-loop-argument l = l.out.items ++ spaced (parts.separated (parts.argument_words (known l.names)) l.behind (drop l.argument-index l.arguments)) ≡ l.initial.out.items ++ spaced (parts.separated (parts.argument_words (known l.names)) false l.arguments)

abbrev pub invariant-declarators::put_suffixes-loop-suffix : goal.invariant-declarators::put_suffixes-loop-suffix
invariant-declarators::put_suffixes-loop-suffix l = l.out.items ++ spaced (each (parts.suffix_words (known l.names)) (drop l.suffix-index l.suffixes)) ≡ l.initial.out.items ++ spaced (each (parts.suffix_words (known l.names)) l.suffixes)

abbrev pub invariant-declarators::put_parameters-loop-parameter : goal.invariant-declarators::put_parameters-loop-parameter
invariant-declarators::put_parameters-loop-parameter l = l.out.items ++ spaced (parts.separated (parts.parameter_words (known l.names)) l.behind (drop l.parameter-index l.parameters)) ≡ l.initial.out.items ++ spaced (parts.separated (parts.parameter_words (known l.names)) false l.parameters)

abbrev pub invariant-specifiers::put_members-loop-member : goal.invariant-specifiers::put_members-loop-member
invariant-specifiers::put_members-loop-member l = l.out.items ++ spaced (each (parts.member_words (known l.names)) (drop l.member-index l.members)) ≡ l.initial.out.items ++ spaced (each (parts.member_words (known l.names)) l.members)

abbrev pub invariant-specifiers::put_next_declarators-loop-declarator : goal.invariant-specifiers::put_next_declarators-loop-declarator
invariant-specifiers::put_next_declarators-loop-declarator l = l.out.items ++ spaced (each (parts.next_declarator (known l.names)) (drop l.declarator-index l.declarators)) ≡ l.initial.out.items ++ spaced (each (parts.next_declarator (known l.names)) l.declarators)

abbrev pub invariant-specifiers::put_enumerators-loop-enumerator : goal.invariant-specifiers::put_enumerators-loop-enumerator
invariant-specifiers::put_enumerators-loop-enumerator l = l.out.items ++ spaced (parts.separated (parts.enumerator_words (known l.names)) l.behind (drop l.enumerator-index l.enumerators)) ≡ l.initial.out.items ++ spaced (parts.separated (parts.enumerator_words (known l.names)) false l.enumerators)

abbrev pub invariant-specifiers::put_specifiers-loop-specifier : goal.invariant-specifiers::put_specifiers-loop-specifier
invariant-specifiers::put_specifiers-loop-specifier l = l.out.items ++ spaced (printed.specifier_list (known l.names) (list_from (drop l.specifier-index l.specifiers))) ≡ l.initial.out.items ++ spaced (printed.specifier_list (known l.names) (list_from l.specifiers))

-- down a chain: what is left is the rest, and what stands behind its links
abbrev pub invariant-expressions::put_expression-loop-first : goal.invariant-expressions::put_expression-loop-first
invariant-expressions::put_expression-loop-first l =
    (l.out.items ++ spaced (printed.expression (known l.names) (expression_in l.rest) ++ behind (known l.names) l.links.items) ≡ l.initial.out.items ++ spaced (printed.expression (known l.names) (expression_in l.e)))
    × (size-Expression l.rest ≤ size-Expression l.e)
    × NoneDeeper (size-Expression l.e) l.links.items

-- and up again
abbrev pub invariant-expressions::put_expression-loop-link : goal.invariant-expressions::put_expression-loop-link
invariant-expressions::put_expression-loop-link l =
    (l.out.items ++ spaced (behind (known l.names) l.links.items) ≡ l.fn.out.items ++ spaced (printed.expression (known l.names) (expression_in l.e)))
    × NoneDeeper (size-Expression l.e) l.links.items

abbrev pub decreases-expressions::put_expression-loop-link : goal.decreases-expressions::put_expression-loop-link
decreases-expressions::put_expression-loop-link l = length l.links.items
