use Rattle.std.proofs.Common.{rules, ◌≡◌, ap, ◌∙◌}
use Rattle.im_ctree.specs.Tree.{call}
use Rattle.im_ctree.specs.Shape.{expression_of}
use Rattle.im_ctree.specs.declared.expression.ExpressionKind.{items_hidden-the_row-Expression-1}
use Rattle.im_ctree.specs.declared.declarator.Core.TheBlock.{hidden-the_row-Expression-1}
use Rattle.im_parse_expression.specs.Parsing.{tree_of, trees_of, items_tree}
use Rattle.im_parse_expression.proofs.Rows.{expressions_row}
use Rattle.im_parse_expression.proofs.build.call.Goals as goal

pub returns : goal.returns
returns c =
    let two : call c.args.at (expression_of c.in_ok-new.field-0.value.at c.in_ok-new.field-0.value.kind) (trees_of c.args.arguments.items) ≡ call c.args.at (tree_of c.args.callee) (items_tree c.args.arguments) = search rules in
    ap (λ z. call c.args.at (expression_of c.in_ok-new.field-0.value.at c.in_ok-new.field-0.value.kind) z) (expressions_row _ (hidden-the_row-Expression-1 c.shrink_to_fit.new.self) ∙ ap trees_of (items_hidden-the_row-Expression-1 c.shrink_to_fit.new.self ∙ c.shrink_to_fit.ensures.items)) ∙ two
