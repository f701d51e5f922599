use Rattle.std.proofs.Common.{◌≡◌, length}
use Rattle.im_parse_expression.specs.Casts.{cast_over}
use Rattle.im_parse_expression.specs.Parsing.{tree_of}
use Rattle.im_parse_expression.proofs.build.casts.Given as goal

abbrev pub invariant-loop-at : goal.invariant-loop-at
invariant-loop-at l = cast_over l.types.items (tree_of l.tree) ≡ cast_over l.initial.types.items (tree_of l.initial.tree)

abbrev pub decreases-loop-at : goal.decreases-loop-at
decreases-loop-at l = length l.types.items
