use Rattle.std.proofs.Common.{◌≡◌, ◌<◌, ◌≤◌, ◌+◌, ◌^◌, ◌↔◌, IsTrue, false, length, map, ℕ, ◌-◌, ◌*◌}
use Rattle.im_word.specs.Shown.{shown}
use Rattle.im_ctree.specs.Grammar.{IsExpression, IsAssignment, IsConditional, IsBinary, IsCast, IsUnary}
use Rattle.im_parse_expression.specs.Parsing.{Parses, Below, IsSized, tree_of, number_of, is_looser}
use Rattle.im_parse_core.specs.Parts.{Made}
use Rattle.im_parse_core.specs.Places.{ReadsAt}
use Rattle.im_ctree.specs.Tree.{size_of_expression}
use Rattle.im_parse_expression.proofs.ExpressionLines.{InCommas}
use Rattle.im_parse_expression.proofs.BinaryLines.{InTails}
use Rattle.im_parse_expression.proofs.CastLines.{InCasts}
use Rattle.im_parse_expression.proofs.PostfixLines.{InPostfix}
use Rattle.im_parse_expression.proofs.ArgumentLines.{InArguments}
use Rattle.im_ctree.specs.Typedefs.{adds_type}
use Rattle.im_ctree.specs.Shape.{declarator_of}
use Rattle.im_parse_core.specs.Repeats.{moved}
use Rattle.im_parse_expression.specs.Declaring.{specifier_tree, member_tree, enumerator_tree, suffix_tree, parameter_tree}
use Rattle.im_parse_expression.proofs.SpecifierLines.{InSpecifiers}
use Rattle.im_parse_expression.proofs.MemberLines.{InMembers, InDeclarators}
use Rattle.im_parse_expression.proofs.EnumeratorLines.{InEnumerators}
use Rattle.im_parse_expression.proofs.SuffixLines.{InSuffixes}
use Rattle.im_parse_expression.proofs.ParameterLines.{InParameters}
use Rattle.im_parse_expression.proofs.+expression.Given as goal

abbrev pub decreases-expressions::assignment : goal.decreases-expressions::assignment
decreases-expressions::assignment l = 32 * (length (map shown l.words.now) - l.at) + 19

abbrev pub decreases-expressions::binary : goal.decreases-expressions::binary
decreases-expressions::binary l = 32 * (length (map shown l.words.now) - l.at) + (6 + (11 - l.level))

abbrev pub decreases-expressions::cast : goal.decreases-expressions::cast
decreases-expressions::cast l = 32 * (length (map shown l.words.now) - l.at) + 6

abbrev pub decreases-expressions::cast_types : goal.decreases-expressions::cast_types
decreases-expressions::cast_types l = 32 * (length (map shown l.words.now) - l.at) + 5

abbrev pub invariant-expressions::cast_types-loop-inside :
    goal.invariant-expressions::cast_types-loop-inside
invariant-expressions::cast_types-loop-inside l = InCasts (l.names) (map shown l.words) l.at l.types.items l.next

abbrev pub decreases-expressions::cast_types-loop-inside :
    goal.decreases-expressions::cast_types-loop-inside
decreases-expressions::cast_types-loop-inside l = length (map shown l.words) - l.next

abbrev pub decreases-expressions::conditional : goal.decreases-expressions::conditional
decreases-expressions::conditional l = 32 * (length (map shown l.words.now) - l.at) + 18

abbrev pub decreases-expressions::expression : goal.decreases-expressions::expression
decreases-expressions::expression l = 32 * (length (map shown l.words.now) - l.at) + 20

abbrev pub decreases-expressions::sized : goal.decreases-expressions::sized
decreases-expressions::sized l = 32 * (length (map shown l.words.now) - l.behind) + 8

abbrev pub decreases-expressions::sized_operand : goal.decreases-expressions::sized_operand
decreases-expressions::sized_operand l = 32 * (length (map shown l.words.now) - l.behind) + 7

abbrev pub decreases-expressions::unary : goal.decreases-expressions::unary
decreases-expressions::unary l = 32 * (length (map shown l.words.now) - l.at) + 5

abbrev pub decreases-postfix::closed_arguments : goal.decreases-postfix::closed_arguments
decreases-postfix::closed_arguments l = 32 * (length (map shown l.words.now) - l.at) + 21

abbrev pub decreases-postfix::postfix : goal.decreases-postfix::postfix
decreases-postfix::postfix l = 32 * (length (map shown l.words.now) - l.at) + 4

abbrev pub invariant-postfix::postfix_from-loop-behind :
    goal.invariant-postfix::postfix_from-loop-behind
invariant-postfix::postfix_from-loop-behind l = InPostfix (l.names) (map shown l.words) l.at l.behind_first (tree_of l.fn.first) l.next (tree_of l.tree) × (l.behind_first ≤ l.next)

abbrev pub decreases-postfix::postfix_from-loop-behind :
    goal.decreases-postfix::postfix_from-loop-behind
decreases-postfix::postfix_from-loop-behind l = length (map shown l.words) - l.next

abbrev pub decreases-postfix::postfix_from : goal.decreases-postfix::postfix_from
decreases-postfix::postfix_from l = 32 * (length (map shown l.words.now) - l.behind_first) + 2

abbrev pub decreases-postfix::primary : goal.decreases-postfix::primary
decreases-postfix::primary l = 32 * (length (map shown l.words.now) - l.at) + 3

abbrev pub invariant-expressions::binary-loop-tightest :
    goal.invariant-expressions::binary-loop-tightest
invariant-expressions::binary-loop-tightest l = ReadsAt (IsBinary (l.names) l.tightest) (Below (l.tightest + 4)) (map shown l.words) l.at (tree_of l.tree) l.next × (l.at ≤ l.next) × (l.level ≤ l.tightest) × (l.tightest ≤ 10)

abbrev pub decreases-expressions::binary-loop-tightest :
    goal.decreases-expressions::binary-loop-tightest
decreases-expressions::binary-loop-tightest l = l.tightest

abbrev pub invariant-expressions::binary-loop-operator :
    goal.invariant-expressions::binary-loop-operator
invariant-expressions::binary-loop-operator l = InTails (l.names) (map shown l.words) l.tightest l.at (tree_of l.tree) l.next × (l.at ≤ l.next) × (l.level ≤ l.tightest) × (l.tightest < 10)

abbrev pub decreases-expressions::binary-loop-operator :
    goal.decreases-expressions::binary-loop-operator
decreases-expressions::binary-loop-operator l = length (map shown l.words) - l.next

abbrev pub invariant-expressions::expression-loop-behind :
    goal.invariant-expressions::expression-loop-behind
invariant-expressions::expression-loop-behind l = InCommas (l.names) (map shown l.words) l.at (tree_of l.tree) l.next × (l.at ≤ l.next)

abbrev pub decreases-expressions::expression-loop-behind :
    goal.decreases-expressions::expression-loop-behind
decreases-expressions::expression-loop-behind l = length (map shown l.words) - l.next

abbrev pub invariant-postfix::closed_arguments-loop-behind :
    goal.invariant-postfix::closed_arguments-loop-behind
invariant-postfix::closed_arguments-loop-behind l = InArguments (l.names) (map shown l.words) l.at (map tree_of l.items.items) l.next × (l.at ≤ l.next)

abbrev pub decreases-postfix::closed_arguments-loop-behind :
    goal.decreases-postfix::closed_arguments-loop-behind
decreases-postfix::closed_arguments-loop-behind l = length (map shown l.words) - l.next

abbrev pub decreases-specifier::specifiers : goal.decreases-specifier::specifiers
decreases-specifier::specifiers l = 32 * (length (map shown l.words.now) - l.at) + 2

abbrev pub decreases-specifier::specifier : goal.decreases-specifier::specifier
decreases-specifier::specifier l = 32 * (length (map shown l.words.now) - l.at) + 1

abbrev pub decreases-specifier::struct_specifier : goal.decreases-specifier::struct_specifier
decreases-specifier::struct_specifier l = 32 * (length (map shown l.words.now) - l.behind) + 0

abbrev pub decreases-specifier::enum_specifier : goal.decreases-specifier::enum_specifier
decreases-specifier::enum_specifier l = 32 * (length (map shown l.words.now) - l.behind) + 0

abbrev pub decreases-member::closed_members : goal.decreases-member::closed_members
decreases-member::closed_members l = 32 * (length (map shown l.words.now) - l.at) + 7

abbrev pub decreases-member::member : goal.decreases-member::member
decreases-member::member l = 32 * (length (map shown l.words.now) - l.at) + 6

abbrev pub decreases-member::closed_declarators : goal.decreases-member::closed_declarators
decreases-member::closed_declarators l = 32 * (length (map shown l.words.now) - l.at) + 5

abbrev pub decreases-enumerator::closed_enumerators : goal.decreases-enumerator::closed_enumerators
decreases-enumerator::closed_enumerators l = 32 * (length (map shown l.words.now) - l.at) + 2

abbrev pub decreases-enumerator::enumerator : goal.decreases-enumerator::enumerator
decreases-enumerator::enumerator l = 32 * (length (map shown l.words.now) - l.at) + 1

abbrev pub decreases-declarators::maybe_declarator : goal.decreases-declarators::maybe_declarator
decreases-declarators::maybe_declarator l = 32 * (length (map shown l.words.now) - l.at) + 4

abbrev pub decreases-declarators::declarator : goal.decreases-declarators::declarator
decreases-declarators::declarator l = 32 * (length (map shown l.words.now) - l.at) + 3

abbrev pub decreases-declarators::suffixes : goal.decreases-declarators::suffixes
decreases-declarators::suffixes l = 32 * (length (map shown l.words.now) - l.at) + 2

abbrev pub decreases-declarators::suffix : goal.decreases-declarators::suffix
decreases-declarators::suffix l = 32 * (length (map shown l.words.now) - l.at) + 1

abbrev pub decreases-parameter::closed_parameters : goal.decreases-parameter::closed_parameters
decreases-parameter::closed_parameters l = 32 * (length (map shown l.words.now) - l.at) + 7

abbrev pub decreases-parameter::parameter : goal.decreases-parameter::parameter
decreases-parameter::parameter l = 32 * (length (map shown l.words.now) - l.at) + 6

abbrev pub decreases-type_name::closed_type_name : goal.decreases-type_name::closed_type_name
decreases-type_name::closed_type_name l = 32 * (length (map shown l.words.now) - l.at) + 6

abbrev pub invariant-specifier::specifiers-loop-alloc :
    goal.invariant-specifier::specifiers-loop-alloc
invariant-specifier::specifiers-loop-alloc l = InSpecifiers (l.names) (map shown l.words) l.at (map specifier_tree l.items.items) l.next × (l.at ≤ l.next) × (l.typed ≡ moved adds_type false (map specifier_tree l.items.items))

abbrev pub decreases-specifier::specifiers-loop-alloc :
    goal.decreases-specifier::specifiers-loop-alloc
decreases-specifier::specifiers-loop-alloc l = length (map shown l.words) - l.next

abbrev pub invariant-member::closed_members-loop-alloc :
    goal.invariant-member::closed_members-loop-alloc
invariant-member::closed_members-loop-alloc l = InMembers (l.names) (map shown l.words) l.at (map member_tree l.items.items) l.next × (l.at ≤ l.next)

abbrev pub decreases-member::closed_members-loop-alloc :
    goal.decreases-member::closed_members-loop-alloc
decreases-member::closed_members-loop-alloc l = length (map shown l.words) - l.next

abbrev pub invariant-member::closed_declarators-loop-behind :
    goal.invariant-member::closed_declarators-loop-behind
invariant-member::closed_declarators-loop-behind l = InDeclarators (l.names) (map shown l.words) l.at (map declarator_of l.items.items) l.next × (l.at ≤ l.next)

abbrev pub decreases-member::closed_declarators-loop-behind :
    goal.decreases-member::closed_declarators-loop-behind
decreases-member::closed_declarators-loop-behind l = length (map shown l.words) - l.next

abbrev pub invariant-enumerator::closed_enumerators-loop-behind :
    goal.invariant-enumerator::closed_enumerators-loop-behind
invariant-enumerator::closed_enumerators-loop-behind l = InEnumerators (l.names) (map shown l.words) l.at (map enumerator_tree l.items.items) l.next × (l.at ≤ l.next)

abbrev pub decreases-enumerator::closed_enumerators-loop-behind :
    goal.decreases-enumerator::closed_enumerators-loop-behind
decreases-enumerator::closed_enumerators-loop-behind l = length (map shown l.words) - l.next

abbrev pub invariant-declarators::suffixes-loop-alloc :
    goal.invariant-declarators::suffixes-loop-alloc
invariant-declarators::suffixes-loop-alloc l = InSuffixes (l.names) (map shown l.words) l.at (map suffix_tree l.items.items) l.next × (l.at ≤ l.next)

abbrev pub decreases-declarators::suffixes-loop-alloc :
    goal.decreases-declarators::suffixes-loop-alloc
decreases-declarators::suffixes-loop-alloc l = length (map shown l.words) - l.next

abbrev pub invariant-parameter::closed_parameters-loop-behind :
    goal.invariant-parameter::closed_parameters-loop-behind
invariant-parameter::closed_parameters-loop-behind l = InParameters (l.names) (map shown l.words) l.at (map parameter_tree l.items.items) l.next × (l.at ≤ l.next)

abbrev pub decreases-parameter::closed_parameters-loop-behind :
    goal.decreases-parameter::closed_parameters-loop-behind
decreases-parameter::closed_parameters-loop-behind l = length (map shown l.words) - l.next
