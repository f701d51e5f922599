use Rattle.std.proofs.Common.{◌≡◌, ◌≤◌, length, false}
use Rattle.im_ctree.specs.declared.expression.Expression.{size-Expression}
use Rattle.im_ctree_parts.specs.Lists.{expression_in}
use Rattle.im_check_expression_parts.specs.im_rules.Scopes.{at_file_scope}
use Rattle.im_check_scopes.specs.Shape.{scopes_of}
use Rattle.im_check_expression_parts.proofs.Arguments.{TermsReached}
use Rattle.im_check_expression_parts.proofs.SuffixesBehind.{GivenReached}
use Rattle.im_check_expression_parts.proofs.ParametersBehind.{ParametersReached}
use Rattle.im_check_expressions.proofs.Chains.{Outer, Reached}
use Rattle.im_check_expressions.proofs.+walk.Given as goal

-- down a chain: the links so far lead to the rest
abbrev pub invariant-expressions::expression-loop-first : goal.invariant-expressions::expression-loop-first
invariant-expressions::expression-loop-first l =
    Outer (size-Expression l.e) l.fn.place (expression_in l.e) l.links.items l.place (expression_in l.rest)
    × (size-Expression l.rest ≤ size-Expression l.e)

-- and up again
abbrev pub invariant-expressions::expression-loop-whole : goal.invariant-expressions::expression-loop-whole
invariant-expressions::expression-loop-whole l =
    Reached (size-Expression l.e) l.fn.place (expression_in l.e) l.links.items l.x l.place

abbrev pub decreases-expressions::expression-loop-whole : goal.decreases-expressions::expression-loop-whole
decreases-expressions::expression-loop-whole l = length l.links.items

abbrev pub invariant-expressions::terms-loop-argument : goal.invariant-expressions::terms-loop-argument
invariant-expressions::terms-loop-argument l = TermsReached l.fn.place l.arguments l.argument-index l.done.items l.place

abbrev pub invariant-suffixes::given-loop-suffix : goal.invariant-suffixes::given-loop-suffix
invariant-suffixes::given-loop-suffix l = GivenReached l.fn.place l.suffixes l.suffix-index l.done.items l.place

abbrev pub invariant-formals::parameters_here-loop-one : goal.invariant-formals::parameters_here-loop-one
invariant-formals::parameters_here-loop-one l = ParametersReached l.fn.place l.written l.one-index l.done.items l.place × (l.number ≡ l.one-index) × (at_file_scope (scopes_of l.place.scope) ≡ false)
