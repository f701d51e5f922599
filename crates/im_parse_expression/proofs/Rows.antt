-- The rows of a tree are the vectors that it was made of.
use Rattle.std.proofs.Common.{◌≡◌, ℕ, refl, ap, ◌∙◌, Global}
use Rattle.std.specs.declared.vec.Vec.{Vec}
use Rattle.im_ctree.specs.declared.expression.Expression.{Expression}
use Rattle.im_ctree.specs.declared.expression.ExpressionKind.{Row_of-Expression, end_of-Expression, more_of-Expression, items-the_row-Expression, items_hidden-the_row-Expression-1}
use Rattle.im_ctree.specs.Tree as tree
use Rattle.im_ctree.specs.Shape.{expressions_of, expression_of}
use Rattle.im_parse_expression.specs.Parsing.{tree_of, trees_of}

pub expressions_row : (n : _) (row : Row_of-Expression n) → expressions_of row ≡ trees_of (items-the_row-Expression n row)
expressions_row _ end_of-Expression = refl
expressions_row _ (more_of-Expression i a xs) = ap (λ z. tree.more_expressions (expression_of i a) z) (expressions_row _ xs)
